-- Which calls on a run are made, by what stands for it.
-- Assumes nothing.
use Rattle.std.specs.Prelude.{Bool, true, false}
use Rattle.session.specs.Sessions.{Place, Unopened, AtWork, Ended, Used}

-- a run at work is open
abbrev pub open_at : Place → Bool
open_at Unopened = false
open_at (AtWork kind k p g t) = true
open_at (Ended o) = false
open_at Used = false

-- what a run gave is there to be filled in
abbrev pub unspent_at : Place → Bool
unspent_at Unopened = false
unspent_at (AtWork kind k p g t) = false
unspent_at (Ended o) = true
unspent_at Used = false
