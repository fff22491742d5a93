use Rattle.arithmetic.proofs.power.+raise_on.Given as goal

-- proposed from what the function passes where it calls itself
abbrev pub decreases-raise_on : goal.decreases-raise_on
decreases-raise_on g l = l.left
