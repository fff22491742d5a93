-- What the words of the arithmetics stand for.
-- Assumes nothing.
use Rattle.std.specs.Prelude.{ℕ, ◌+◌, ◌-◌, ◌*◌, ◌/◌, ◌%◌, ◌^◌, ℤ, pos, negsuc, neg_ℤ, ◌≤ℤ◌}

-- the residue of a Montgomery word: the word divided by 2^32 modulo p. The half of 1 is (p + 1)/2.
abbrev pub halved : ℕ → ℕ → ℕ
halved p e = e * ((p + 1) / 2) ^ 32 % p

-- the residue of a signed word: its remainder by p, from 0 to p − 1
abbrev pub remainder : ℕ → ℤ → ℕ
remainder p (pos n) = n % p
remainder p (negsuc n) = p - 1 - n % p

-- a signed word is balanced: it lies in −(p − 1)/2 to (p − 1)/2
abbrev pub WithinHalf : ℕ → ℤ → Type 0
WithinHalf p z = (neg_ℤ (pos ((p - 1) / 2)) ≤ℤ z) × (z ≤ℤ pos ((p - 1) / 2))
