use Rattle.std.proofs.Common.{refl}
use Rattle.std.proofs.lemmas.Bool.{false≢true}
use Rattle.search.specs.Net.{same}
use Rattle.search.proofs.Example.{example-lawful}
use Rattle.search.proofs.worked_example.Goals as goal

-- all but the first by computation
pub returns : goal.returns
unfolding same
returns c =
    record {
      lawful = example-lawful;
      found = (refl, refl);
      none = (refl, refl);
      meets = (record { orders = ((refl, (refl, refl)), ((refl, (refl, refl)), tt)); locals = refl; pairs = refl }, λ m. false≢true m.pairs);
      ready = refl;
      bound = (refl, refl);
    }
