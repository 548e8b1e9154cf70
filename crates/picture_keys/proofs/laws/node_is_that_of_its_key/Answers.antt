use Rattle.picture_keys.proofs.Numbering.{node_stands, node_live}
use Rattle.picture_keys.proofs.laws.node_is_that_of_its_key.Goals as goal

pub returns : goal.returns
returns c = record {
  tree = λ keys numbers known requests h. node_stands keys numbers known h requests;
  live = λ keys numbers known requests h. node_live keys numbers known h requests;
}
