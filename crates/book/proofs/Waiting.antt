-- Tables in which every record waits.
-- Main statements: empty_waits, begun_waits, entered_waits.
-- Assumes nothing.
use Rattle.std.proofs.Common.{◌≡◌, ℕ, Bool, true, false, cond, Ok, Err, Result, sym, refl, ap, subst}
use Rattle.arithmetic.specs.declared.refusal.Refusal.{Refusal}
use Rattle.table.specs.Chain.{Contents, every}
use Rattle.table.specs.Entering.{Entered}
use Rattle.table.specs.Fitness.{record_waits}
use Rattle.table.specs.Tables.{empty}
use Rattle.table.proofs.Linked.{entered_every}
use Rattle.table.proofs.Records.{every_none}

-- every record of the table waits
abbrev pub Waits : Contents → Type 0
Waits t = every record_waits t.records ≡ true

pub empty_waits : (t : Contents) (k : ℕ) → t ≡ empty k → Waits t
empty_waits t k e = every_none record_waits t.records (ap (λ (u : Contents). u.records) e)

pub begun_waits : (b : Bool) (before after : Contents) (k : ℕ) → after ≡ cond b (empty k) before → Waits before → Waits after
begun_waits true before after k e w = empty_waits after k e
begun_waits false before after k e w = subst Waits (sym e) w

pub entered_waits : {T : Type 0} (before after : Contents) (p g : ℕ) (r : Result T Refusal) → Entered before after p g r → Waits before → Waits after
entered_waits before after p g (Ok x) e w =
    entered_every record_waits (λ r. refl) before.records after.records p g e.1 w refl
entered_waits before after p g (Err x) e w = subst Waits (sym e) w
