-- Reading: what is read waits, was written so, and is found again.
-- Main statements: read_waits, written_again, found_again.
-- Assumes nothing.
use Rattle.std.proofs.Common.{◌≡◌, ℕ, ◌≤◌, true, cond, List, length, is_ok, Some, None, Ok, Err, Result, sym, refl, ap, ◌∙◌, subst, arith}
use Rattle.std.specs.Result.{result_err}
use Rattle.file.specs.Layout.{encode}
use Rattle.file.specs.Reading.{decode, read_tests}
use Rattle.file.proofs.Decoding.{Bytes, encode-decode, read_sound}
use Rattle.file.proofs.Encoding.{listing_read}
use Rattle.table.specs.declared.fault.Fault.{Fault}
use Rattle.table.specs.Chain.{Contents}
use Rattle.arithmetic.specs.Causes.{first_cause, index_stands}
use Rattle.table.specs.Tables.{empty}
use Rattle.table.proofs.Judged.{Sound}
use Rattle.book.specs.Listings.{WrittenAgain}
use Rattle.book.proofs.Waiting.{Waits, empty_waits}

module _ {T : Type 0} (xs : List ℕ) (after : Contents) where
  pub read_waits : (r : Result T Fault) → result_err r ≡ first_cause (read_tests xs) → after ≡ cond (is_ok r) (decode xs) (empty 2) → Waits after
  read_waits (Ok x) answer now = subst Waits (sym now) (read_sound xs (sym answer)).2.2
  read_waits (Err f) answer now = empty_waits after 2 now

  pub written_again : (r : Result T Fault) → Bytes xs → result_err r ≡ first_cause (read_tests xs) → after ≡ cond (is_ok r) (decode xs) (empty 2)
      → WrittenAgain xs after r
  written_again (Ok x) bytes answer now ok =
      let fit = read_sound xs (sym answer) in
      ap encode now ∙ encode-decode xs bytes fit.0 fit.1
  written_again (Err f) bytes answer now ok = absurd (let z : ◌≡◌ {A = ℕ} 0 1 = cc in omega arith)

  pub found_again : (r : Result T Fault) → result_err r ≡ first_cause (read_tests xs) → after ≡ cond (is_ok r) (decode xs) (empty 2)
      → (t : Contents) → length t.records ≤ 1023 → index_stands t.index ≡ true → Sound t.first t.index t.records
      → encode t ≡ xs → (is_ok r ≡ true) × (after ≡ t)
  found_again (Ok x) answer now t few stands sound same =
      (refl, now ∙ ap decode (sym same) ∙ (listing_read t few stands sound).1)
  found_again (Err f) answer now t few stands sound same =
      let none : first_cause (read_tests xs) ≡ None = subst (λ (ys : List ℕ). first_cause (read_tests ys) ≡ None) same (listing_read t few stands sound).0 in
      let never : Some f ≡ None = answer ∙ none in
      absurd (let z : ◌≡◌ {A = ℕ} 0 1 = cc in omega arith)
