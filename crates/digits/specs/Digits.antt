-- Binary digits of a group: the whole quotient of 2^w·x by p holds the first w binary digits of x/p.
-- Assumes nothing.
use Rattle.std.specs.Prelude.{ℕ, ◌-◌, ◌/◌, ◌%◌, ◌^◌}

-- digit u of the w digits of c, the first digit highest
abbrev pub digit : ℕ → ℕ → ℕ → ℕ
digit w u c = c / 2 ^ (w - 1 - u) % 2
