use Rattle.rt_native.proofs.Places.{calls_have_their_places, code_has_its_places, stubs_have_their_places}
use Rattle.rt_native.proofs.laws.code_has_its_places.Goals as goal

pub returns : goal.returns
returns c = record {
  code = code_has_its_places;
  stubs = stubs_have_their_places;
  calls = calls_have_their_places;
}
