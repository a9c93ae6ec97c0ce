use Rattle.search.proofs.Machine.{start-has_all, one_try_less, ended-where_no_try_is_left}
use Rattle.search.proofs.Run.{run-makes_what_is_left}
use Rattle.search.proofs.run_makes_what_is_left.Goals as goal

pub returns : goal.returns
returns c = record { start = start-has_all; step = one_try_less; run = run-makes_what_is_left; end = ended-where_no_try_is_left }
