-- What a table holds, and its chain.
-- Assumes nothing.
use Rattle.std.specs.Prelude.{◌≡◌, ℕ, zero, suc, ◌<◌, Bool, true, cond, ◌&&◌, ◌≢◌, ◌↔◌, List, [], ◌∷◌, map, length, get_or, is_some, Some, None, Option, ◌==◌, nat_le, nat_lt, slice_index_or}
use Rattle.std.specs.List.{slice_get}
use Rattle.table.specs.declared.pair.Pair.{Pair}
use Rattle.table.specs.declared.pair.Record.{Record}

-- the number of the chain's first record, the index, and the records in order of entering, numbered from 1
pub record Contents : Type 0 where
  pub first : ℕ
  pub index : ℕ
  pub records : List Record

-- the head stands before record 1, as record 0: its next is the first of the chain, and its modulus is 0
abbrev pub head : ℕ → Record
head first = record { next = first; modulus = 0; generator = 0; residue = None }

abbrev pub rows : ℕ → List Record → List Record
rows first records = head first ∷ records

-- the record numbered i, and what it has
abbrev pub row : List Record → ℕ → Record
row rs i = slice_index_or rs i (head 0)

abbrev pub next_in : List Record → ℕ → ℕ
next_in rs i = (row rs i).next

abbrev pub modulus_in : List Record → ℕ → ℕ
modulus_in rs i = (row rs i).modulus

abbrev pub pair_in : List Record → ℕ → Pair
pair_in rs i = record { modulus = (row rs i).modulus; generator = (row rs i).generator }

-- from a record the chain comes to its end in exactly so many steps, each to a record numbered 1 to count and with a
-- larger modulus
unfoldable pub rises : (ℕ → ℕ) → (ℕ → ℕ) → ℕ → ℕ → ℕ → Bool
rises next modulus count zero i = next i == 0
rises next modulus count (suc steps) i =
    nat_le 1 (next i) && nat_le (next i) count && nat_lt (modulus i) (modulus (next i)) && rises next modulus count steps (next i)

-- the chain of a table: it rises from the head, in as many steps as there are records
unfoldable pub chained : ℕ → List Record → Bool
chained first records =
    rises (next_in (rows first records)) (modulus_in (rows first records)) (length records) (length records) 0

-- the numbers of the records that so many steps from a record meet, in order
unfoldable pub walk : (ℕ → ℕ) → ℕ → ℕ → List ℕ
walk next zero i = []
walk next (suc steps) i = next i ∷ walk next steps (next i)

-- the record after which a pair of the modulus p comes: from a record on, the last that is met before a modulus of p or more
unfoldable pub place : (ℕ → ℕ) → (ℕ → ℕ) → ℕ → ℕ → ℕ → ℕ
place next modulus p zero i = i
place next modulus p (suc steps) i = cond (nat_lt (modulus (next i)) p) (place next modulus p steps (next i)) i

-- the pairs in chain order
unfoldable pub pairs_along : ℕ → List Record → List Pair
pairs_along first records = map (pair_in (rows first records)) (walk (next_in (rows first records)) (length records) 0)

abbrev pub chain_pairs : Contents → List Pair
chain_pairs t = pairs_along t.first t.records

-- a pair put in its place among pairs in rising order of modulus
unfoldable pub insert : Pair → List Pair → List Pair
insert x [] = x ∷ []
insert x (y ∷ ys) = cond (nat_lt y.modulus x.modulus) (y ∷ insert x ys) (x ∷ y ∷ ys)

-- the record of a number
abbrev pub numbered : List Record → ℕ → Option Record
numbered rs zero = None
numbered rs (suc i) = slice_get rs i

-- the number of the first record with the modulus p, where the records are numbered from n on
unfoldable pub number_from : ℕ → List Record → ℕ → Option ℕ
number_from n [] p = None
number_from n (r ∷ rs) p = cond (r.modulus == p) (Some n) (number_from (suc n) rs p)

-- the number of the record with the modulus p, where it is listed
abbrev pub number_of : List Record → ℕ → Option ℕ
number_of rs p = number_from 1 rs p

abbrev pub listed : List Record → ℕ → Bool
listed rs p = is_some (number_of rs p)

-- the record numbered n has the modulus p, and no other record; or none has it
abbrev pub Only : List Record → ℕ → Option ℕ → Type 0
Only rs p None = (i : ℕ) → i < length rs → (get_or rs i (head 0)).modulus ≢ p
Only rs p (Some n) = (i : ℕ) → i < length rs → ((get_or rs i (head 0)).modulus ≡ p) ↔ (suc i ≡ n)

-- a record with another next
abbrev pub relinked : Record → ℕ → Record
relinked r n = record { next = n; modulus = r.modulus; generator = r.generator; residue = r.residue }

-- every record passes the test
unfoldable pub every : (Record → Bool) → List Record → Bool
every test [] = true
every test (r ∷ rs) = test r && every test rs
