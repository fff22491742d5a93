use Rattle.std.proofs.Common.{◌≡◌, ℕ, ◌≢◌, List, Some, None, Option, sym, ap, ◌∙◌, arith}
use Rattle.std.proofs.lemmas.Result.{err_from_is_err_and}
use Rattle.arithmetic.specs.declared.refusal.Refusal.TheVariants.{NotListed}
use Rattle.table.specs.declared.pair.Record.{Record}
use Rattle.table.specs.Chain.{number_of, numbered}
use Rattle.table.specs.Tables.{contents}
use Rattle.book.specs.Worked.{record_of}
use Rattle.book.proofs.Lookups.{record_at, unlisted_record}
use Rattle.book.proofs.Refusals.{not_listed, other_generator, already_filled, fills}
use Rattle.book.proofs.book.Book.admit.Goals as goal

-- the record of the number that was found
found : (rs : List Record) (m p n : ℕ) (o : Option Record) → m ≡ p → Some n ≡ number_of rs m → o ≡ numbered rs n → record_of rs p ≡ o
found rs m p n o same number is = ap (record_of rs) (sym same) ∙ sym (record_at rs m n (sym number)) ∙ sym is

pub returns-in_err-number : goal.returns-in_err-number
returns-in_err-number c =
    let t = contents c.args.self.now.table in
    let f = c.args.finished.now in
    let same : f.index ≡ c.args.self.now.table.index = omega (arith, c.index.ensures.value, c.index-2.ensures.value, c.if-index.false) in
    let unlisted : c.find.result ≡ None = grind arith in
    let why : c.in_err-number.field-0.0 ≡ NotListed = grind arith in
    let none = unlisted_record t.records f.modulus (ap (number_of t.records) (sym c.modulus.ensures.value) ∙ sym c.find.ensures.value ∙ unlisted) in
    let p = err_from_is_err_and c.from_residual.result c.from_residual.ensures.1 in
    rw (p.1, p.2, why) (record { admitted = not_listed t f.index f.modulus f.generator same none })

pub returns-in_err-record : goal.returns-in_err-record
returns-in_err-record c =
    let t = contents c.args.self.now.table in
    let f = c.args.finished.now in
    let same : f.index ≡ c.args.self.now.table.index = omega (arith, c.index.ensures.value, c.index-2.ensures.value, c.if-index.false) in
    let number : c.find.result ≡ Some c.in_ok-number.number = grind arith in
    let missing : c.record.result ≡ None = grind arith in
    let why : c.in_err-record.field-0.0 ≡ NotListed = grind arith in
    let none = found t.records c.modulus.result f.modulus c.in_ok-number.number None c.modulus.ensures.value (sym number ∙ c.find.ensures.value) (sym missing ∙ c.record.ensures.value) in
    let p = err_from_is_err_and c.from_residual-in_err-record.result c.from_residual-in_err-record.ensures.1 in
    rw (p.1, p.2, why) (record { admitted = not_listed t f.index f.modulus f.generator same none })

pub returns-then-record-generator : goal.returns-then-record-generator
returns-then-record-generator c =
    let t = contents c.args.self.now.table in
    let f = c.args.finished.now in
    let r = c.in_ok-record.record in
    let same : f.index ≡ c.args.self.now.table.index = omega (arith, c.index.ensures.value, c.index-2.ensures.value, c.if-index.false) in
    let is = found t.records c.modulus.result f.modulus c.in_ok-number.number (Some r) c.modulus.ensures.value (sym c.in_ok-number.ensures.ok_part ∙ c.find.ensures.value) (sym c.in_ok-record.ensures.ok_part ∙ c.record.ensures.value) in
    let other : r.generator ≢ f.generator = omega (arith, c.generator.ensures.value, c.if-record-generator.true) in
    record { admitted = other_generator t f.index f.modulus f.generator same r is other }

pub returns-then-is_some : goal.returns-then-is_some
returns-then-is_some c =
    let t = contents c.args.self.now.table in
    let f = c.args.finished.now in
    let r = c.in_ok-record.record in
    let same : f.index ≡ c.args.self.now.table.index = omega (arith, c.index.ensures.value, c.index-2.ensures.value, c.if-index.false) in
    let is = found t.records c.modulus.result f.modulus c.in_ok-number.number (Some r) c.modulus.ensures.value (sym c.in_ok-number.ensures.ok_part ∙ c.find.ensures.value) (sym c.in_ok-record.ensures.ok_part ∙ c.record.ensures.value) in
    let alike : r.generator ≡ f.generator = omega (arith, c.generator.ensures.value, c.if-record-generator.false) in
    record { admitted = already_filled t f.index f.modulus f.generator same r is alike (sym c.if-is_some.ensures) }

pub returns : goal.returns
returns c =
    let t = contents c.args.self.now.table in
    let f = c.args.finished.now in
    let r = c.in_ok-record.record in
    let same : f.index ≡ c.args.self.now.table.index = omega (arith, c.index.ensures.value, c.index-2.ensures.value, c.if-index.false) in
    let number : c.find.result ≡ Some c.in_ok-number.number = c.in_ok-number.ensures.ok_part in
    let is = found t.records c.modulus.result f.modulus c.in_ok-number.number (Some r) c.modulus.ensures.value (sym number ∙ c.find.ensures.value) (sym c.in_ok-record.ensures.ok_part ∙ c.record.ensures.value) in
    let alike : r.generator ≡ f.generator = omega (arith, c.generator.ensures.value, c.if-record-generator.false) in
    record {
      admitted = (
        fills t f.index f.modulus f.generator same r is alike (sym c.if-is_some.ensures),
        ap (number_of t.records) (sym c.modulus.ensures.value) ∙ sym c.find.ensures.value ∙ number,
      );
    }
