-- Nodes: a key's own content, with the keys of its entries under their numbers.
use Rattle.std.specs.Prelude.{ℕ, List, Option, refl}
use Rattle.std.specs.Coded.{Coded, code_by, coded×, coded_list, coded_ℕ, coded_option}

-- what a node holds: the content, and at each entry the number of a key or nothing
pub record NodeOf (W : Type 0) : Type 0 where
  pub content : W
  pub entries : List (Option ℕ)

abbrev pub node_code : {W : Type 0} → Coded W → Coded (NodeOf W)
node_code {W} code =
    code_by (W × List (Option ℕ)) (coded× code (coded_list (coded_option coded_ℕ)))
    (λ node. (node.content, node.entries)) (λ p. record { content = p.0; entries = p.1 }) (λ _. refl)
