-- The pair is linked into the chain and pushed.
use Rattle.std.proofs.Common.{◌≡◌, ℕ, suc, ◌+◌, ◌<◌, true, List, [], ◌∷◌, ◌++◌, length, vec_items, sym, refl, ap, ◌∙◌, arith}
use Rattle.std.proofs.lemmas.Bool.{and_parts, and_from, leb-true}
use Rattle.table.specs.declared.pair.Record.{Record}
use Rattle.table.specs.Chain.{place, rows, next_in, modulus_in, relinked}
use Rattle.table.specs.Entering.{waiting_record}
use Rattle.arithmetic.specs.Causes.{modulus_fits, generator_fits, index_fits}
use Rattle.table.specs.Fitness.{record_fits}
use Rattle.table.specs.Tables.{contents}
use Rattle.table.proofs.Firsts.{admitted}
use Rattle.table.proofs.Linked.{place_within, linked_chain, linked_pairs, linked_records, linked_every}
use Rattle.table.proofs.table.RecordTable.enter.Goals as goal

positive : (p : ℕ) → modulus_fits p ≡ true → 0 < p
positive p h = omega (arith, leb-true 5 p (and_parts _ _ (and_parts _ _ h).0).1)

-- a new record passes where its pair does
new_fits : (k p g : ℕ) → modulus_fits p ≡ true → generator_fits p g ≡ true → index_fits p k ≡ true → record_fits k (waiting_record 0 p g) ≡ true
unfolding record_fits
new_fits k p g a b d = and_from _ _ (and_from _ _ (and_from _ _ a b) d) refl

blind : (k : ℕ) (r : Record) → record_fits k (relinked r 0) ≡ record_fits k r
unfolding record_fits
blind k r = refl

-- the place, and what came after it, as the chain told them
found : (first first' : ℕ) (rs slice : List Record) (p at : ℕ) → first' ≡ first → slice ≡ rs
    → at ≡ place (next_in (rows first' slice)) (modulus_in (rows first' slice)) p (length slice) 0
    → at ≡ place (next_in (rows first rs)) (modulus_in (rows first rs)) p (length rs) 0
found first first' rs slice p at e same h =
    h
    ∙ ap (λ (n : ℕ). place (next_in (rows n slice)) (modulus_in (rows n slice)) p (length slice) 0) e
    ∙ ap (λ (xs : List Record). place (next_in (rows first xs)) (modulus_in (rows first xs)) p (length xs) 0) same

pushed : (first first' : ℕ) (rs slice mid rs' : List Record) (p g at next : ℕ) → first' ≡ first → slice ≡ rs → next ≡ next_in (rows first' slice) at
    → rs' ≡ mid ++ waiting_record next p g ∷ [] → rs' ≡ mid ++ waiting_record (next_in (rows first rs) at) p g ∷ []
pushed first first' rs slice mid rs' p g at next e same is h =
    h
    ∙ ap (λ (n : ℕ). mid ++ waiting_record n p g ∷ [])
    (is ∙ ap (λ (n : ℕ). next_in (rows n slice) at) e ∙ ap (λ (xs : List Record). next_in (rows first xs) at) same)

pub after-next-requires : goal.after-next-requires
after-next-requires c =
    let chain = c.chain-chain.result in
    let passed = admitted (contents c.args.self.now) c.args.modulus c.args.generator (sym c.in_ok-admit.ensures.answer) in
    place_within chain.first chain.records.now c.args.modulus c.place_of-at.result chain.rising (positive c.args.modulus passed.0) c.place_of-at.ensures.value

pub relink-requires : goal.relink-requires
relink-requires c =
    let t = c.args.self.now in
    let rs = vec_items t.records in
    let p = c.args.modulus in
    let passed = admitted (contents t) p c.args.generator (sym c.in_ok-admit.ensures.answer) in
    let here = found t.first c.chain-chain.result.first rs c.chain-chain.result.records.now p c.place_of-at.result c.chain-chain.ensures.first c.chain-chain.ensures.records c.place_of-at.ensures.value in
    omega (arith, place_within t.first rs p c.place_of-at.result t.rising (positive p passed.0) here, t.records.ok.0)

pub invariant_of-self : goal.invariant_of-self
invariant_of-self c =
    let t = c.args.self.now in
    let rs = vec_items t.records in
    let p = c.args.modulus in
    let g = c.args.generator in
    let passed = admitted (contents t) p g (sym c.in_ok-admit.ensures.answer) in
    let at = c.place_of-at.result in
    let here = found t.first c.chain-chain.result.first rs c.chain-chain.result.records.now p at c.chain-chain.ensures.first c.chain-chain.ensures.records c.place_of-at.ensures.value in
    let mid = vec_items c.relink.new.records in
    let rs' = vec_items c.push_reserved.new.self in
    let last : c.len.result + 1 ≡ suc (length rs) = omega (arith, c.len.ensures, t.records.ok.0) in
    let put = pushed t.first c.chain-chain.result.first rs c.chain-chain.result.records.now mid rs' p g at c.after-next.result c.chain-chain.ensures.first c.chain-chain.ensures.records c.after-next.ensures.value c.push_reserved.ensures.items in record {
      room = omega (arith, c.push_reserved.ensures.capacity, c.relink.ensures.capacity, t.room);
      few = omega (arith, c.push_reserved.ensures.len, c.relink.ensures.len, passed.3, t.records.ok.0);
      stands = t.stands;
      rising = linked_chain t.first c.relink.new.first rs mid rs' p g at (c.len.result + 1) t.rising passed.4 (positive p passed.0) here last c.relink.ensures.linked put;
      fits = linked_every t.first c.relink.new.first rs mid rs' p g at (c.len.result + 1) t.rising passed.4 (positive p passed.0) here last c.relink.ensures.linked put (record_fits t.index) (blind t.index) t.fits (new_fits t.index p g passed.0 passed.1 passed.2);
    }

pub returns : goal.returns
returns c =
    let t = c.args.self.now in
    let rs = vec_items t.records in
    let p = c.args.modulus in
    let g = c.args.generator in
    let passed = admitted (contents t) p g (sym c.in_ok-admit.ensures.answer) in
    let at = c.place_of-at.result in
    let here = found t.first c.chain-chain.result.first rs c.chain-chain.result.records.now p at c.chain-chain.ensures.first c.chain-chain.ensures.records c.place_of-at.ensures.value in
    let mid = vec_items c.relink.new.records in
    let rs' = vec_items c.push_reserved.new.self in
    let last : c.len.result + 1 ≡ suc (length rs) = omega (arith, c.len.ensures, t.records.ok.0) in
    let put = pushed t.first c.chain-chain.result.first rs c.chain-chain.result.records.now mid rs' p g at c.after-next.result c.chain-chain.ensures.first c.chain-chain.ensures.records c.after-next.ensures.value c.push_reserved.ensures.items in
    record {
      answer = c.in_ok-admit.ensures.answer;
      after = (
        refl,
        linked_records t.first c.relink.new.first rs mid rs' p g at (c.len.result + 1) t.rising passed.4 (positive p passed.0) here last c.relink.ensures.linked put,
        linked_pairs t.first c.relink.new.first rs mid rs' p g at (c.len.result + 1) t.rising passed.4 (positive p passed.0) here last c.relink.ensures.linked put,
      );
    }
