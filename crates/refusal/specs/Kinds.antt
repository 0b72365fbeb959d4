-- The numbers of document 01's table 'Refused' for the refusals of the code (src/kinds.rt), and for what calls answer.
use Rattle.std.specs.Prelude.{ℕ, [], ◌∷◌, Bool, cond, Result, Ok, Err}
use Rattle.refusal.specs.Returned.{Returned}
use Rattle.refusal.specs.declared.kinds.Refusal.{Refusal}
use Rattle.refusal.specs.declared.kinds.Refusal.TheVariants.{Layers, Length, Precision, MapByte, NoMessagePlace, Coefficient, Symbol}
use Rattle.refusal.specs.declared.kinds.Refusal.TheVariants.{Penalty, NoZero, Base, Gain, Form, Candidates, Amplitude}

-- the number of a refusal
abbrev pub number_of : Refusal → ℕ
number_of Layers = 1
number_of Length = 2
number_of Precision = 3
number_of MapByte = 4
number_of NoMessagePlace = 5
number_of Coefficient = 6
number_of Symbol = 7
number_of Penalty = 8
number_of NoZero = 9
number_of Base = 10
number_of Gain = 11
number_of Form = 12
number_of Candidates = 13
number_of Amplitude = 19

-- the number that a call returns: 0 where it accepted its input, whatever else it answers
abbrev pub number : {A : Type 0} → Result A Refusal → ℕ
number (Ok x) = 0
number (Err r) = number_of r

-- what a call returns that answers a number beside the buffers: 0 and that number, or the number of the refusal
abbrev pub returned : Result ℕ Refusal → Returned
returned (Ok x) = record { number = 0; values = x ∷ [] }
returned (Err r) = record { number = number_of r; values = [] }

-- the same of a call that answers yes, which is 1, or no, which is 0
abbrev pub returned_flag : Result Bool Refusal → Returned
returned_flag (Ok holds) = record { number = 0; values = cond holds 1 0 ∷ [] }
returned_flag (Err r) = record { number = number_of r; values = [] }
