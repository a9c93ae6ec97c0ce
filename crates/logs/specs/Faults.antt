-- How a run of a list of calls came out: whether the board was made, and what was refused of the making.
use Rattle.std.specs.Prelude.{codes, ℕ, List, Some, None, Ok, Err, Option, Result}
use Rattle.bus.specs.Refusals.{said}
use Rattle.bus.specs.declared.refusal.Refusal.{Refusal}
use Rattle.logs.specs.declared.log_fault.LogFault.{LogFault}
use Rattle.logs.specs.declared.log_fault.LogFault.TheVariants.{Refused, Memory}

abbrev pub making_fault : Result (Unit {0}) LogFault → Option Refusal
making_fault (Ok u) = None
making_fault (Err (Refused f)) = Some f
making_fault (Err Memory) = None

-- P where the making was refused
abbrev pub WhereRefused : Result (Unit {0}) LogFault → Type 0 → Type 0
WhereRefused (Ok u) P = Unit {0}
WhereRefused (Err (Refused f)) P = P
WhereRefused (Err Memory) P = Unit {0}

-- P where the board was made, whether all calls were made on it or memory was wanting
abbrev pub WhereMade : Result (Unit {0}) LogFault → Type 0 → Type 0
WhereMade (Ok u) P = P
WhereMade (Err (Refused f)) P = Unit {0}
WhereMade (Err Memory) P = P

-- how it is printed
abbrev pub fault_said : LogFault → List ℕ
fault_said (Refused f) = said f
fault_said Memory = codes "memory is wanting"
