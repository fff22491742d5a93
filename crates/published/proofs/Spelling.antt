-- Digits behind a number, modulo p.
-- Main statements: spelled_step, spelled_end.
use Rattle.std.proofs.Common.{◌≡◌, ℕ, ◌+◌, ◌-◌, ◌*◌, ◌%◌, ◌<◌, ◌≤◌, List, [], ◌∷◌, length, get_or, drop, sym, refl, ◌∙◌}
use Rattle.std.proofs.lemmas.List.{at_drop_more, at_drop_all}
use Rattle.theory.proofs.Congruence.{Cong, cong_refl, cong-add, cong_mul_left, cong_rem, cong-mod}
use Rattle.published.specs.Numerals.{spelled}

spelled_cong : {p : ℕ} (ds : List ℕ) {m n : ℕ} → Cong p m n → Cong p (spelled m ds) (spelled n ds)
unfolding spelled
spelled_cong [] c = c
spelled_cong (d ∷ ds) c = spelled_cong ds (cong-add (cong_mul_left 10 c) (cong_refl (d - 48)))

-- one digit taken into the number, which may be taken by its remainder
pub spelled_step : (p n : ℕ) (ds : List ℕ) (i : ℕ) → i < length ds
    → spelled ((10 * n + (get_or ds i 0 - 48)) % p) (drop (i + 1) ds) % p ≡ spelled n (drop i ds) % p
unfolding spelled
spelled_step p n ds i within =
    let next = 10 * n + (get_or ds i 0 - 48) in
    let more : spelled n (drop i ds) ≡ spelled next (drop (i + 1) ds) = at_drop_more (spelled n) ds i 0 within in
    cong-mod (spelled_cong (drop (i + 1) ds) (cong_rem p next)) ∙ sym (rw more refl)

-- no digit is left
pub spelled_end : (n : ℕ) (ds : List ℕ) (i : ℕ) → length ds ≤ i → spelled n (drop i ds) ≡ n
unfolding spelled
spelled_end n ds i past = at_drop_all (spelled n) ds i past
