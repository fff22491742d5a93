-- The number of each fault.
-- Assumes nothing.
use Rattle.std.specs.Prelude.{ℕ}
use Rattle.arithmetic.specs.Refusals.{refusal_number}
use Rattle.table.specs.declared.fault.Damage.{Damage}
use Rattle.table.specs.declared.fault.Damage.TheVariants.{Length, Head, Chain, Residue}
use Rattle.table.specs.declared.fault.Fault.{Fault}
use Rattle.table.specs.declared.fault.Layer.{Layer}
use Rattle.table.specs.declared.fault.Layer.TheVariants.{File, Job}

abbrev pub damage_number : Damage → ℕ
damage_number Length = 19
damage_number Head = 20
damage_number Chain = 21
damage_number Residue = 22

-- a fault of the job has the number of its refusal
abbrev pub layer_number : Layer → ℕ
layer_number (File d) = damage_number d
layer_number (Job r) = refusal_number r

abbrev pub fault_number : Fault → ℕ
fault_number f = layer_number f.layer
