use Rattle.search.proofs.Delays.{found-delays_are_stored}
use Rattle.search.proofs.Kept.{every_stage_is_kept}
use Rattle.search.proofs.Over.{over_where_no_try_is_left, complete_has_its_orders}
use Rattle.search.proofs.Stored.{try_is_a_step, first-stage_has_all}
use Rattle.search.proofs.Tries.{tries-make_what_is_left}
use Rattle.search.proofs.stored_walk.Goals as goal

pub returns : goal.returns
returns c =
    record {
      steps = try_is_a_step;
      run = tries-make_what_is_left;
      start = first-stage_has_all;
      end = over_where_no_try_is_left;
      kept = every_stage_is_kept;
      orders = complete_has_its_orders;
      delays = found-delays_are_stored;
    }
