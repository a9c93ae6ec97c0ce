-- The theorems are proved in proofs/Least.antt.
use Rattle.grammar.proofs.Least.{reported-is_least, faultless-is_read, read_is_faultless}
use Rattle.grammar.proofs.laws.least_fault_reported.Goals as goal

pub returns : goal.returns
returns c = record { least = reported-is_least; read = faultless-is_read; faultless = read_is_faultless }
