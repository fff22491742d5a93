use Rattle.std.proofs.Common.{◌≡◌, ℕ, ◌/◌, ◌%◌, cond, eqb, ◌≢◌, sym, ap, ◌∙◌, eq-eqb, ne_eqb}
use Rattle.theory.specs.Doubling.{order, row_length_of}
use Rattle.run.proofs.order.row_length.Goals as goal

even_order : (p n : ℕ) → n ≡ order p → n % 2 ≡ 0 → n / 2 ≡ row_length_of p
unfolding row_length_of
even_order p n is even =
    let test : eqb (order p % 2) 0 ≡ mathlib.Core.Bool.true = eq-eqb (order p % 2) 0 (ap (λ (m : ℕ). m % 2) (sym is) ∙ even) in
    ap (λ (m : ℕ). m / 2) is ∙ ap (λ b. cond b (order p / 2) (order p)) (sym test)

odd_order : (p n : ℕ) → n ≡ order p → n % 2 ≢ 0 → n ≡ row_length_of p
unfolding row_length_of
odd_order p n is odd =
    let test : eqb (order p % 2) 0 ≡ mathlib.Core.Bool.false = ne_eqb (order p % 2) 0 (λ even. odd (ap (λ (m : ℕ). m % 2) is ∙ even)) in
    is ∙ ap (λ b. cond b (order p / 2) (order p)) (sym test)

pub returns-then-order-eq0 : goal.returns-then-order-eq0
returns-then-order-eq0 g c = record { value = even_order _ _ c.order_of_two-order.ensures.value c.if-order-eq0.true }

pub returns-else-order-eq0 : goal.returns-else-order-eq0
returns-else-order-eq0 g c = record { value = odd_order _ _ c.order_of_two-order.ensures.value c.if-order-eq0.false }
