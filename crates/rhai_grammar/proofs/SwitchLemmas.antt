-- What the arms of a `switch` give, up to positions.
use Rattle.std.proofs.Common.{◌≡◌, ℕ, Bool, true, false, ◌&&◌, [], ◌∷◌, ◌++◌, refl, sym, ap, ◌∙◌, if◌then◌else◌}
use Rattle.std.specs.Prelude.{◌==◌, Option, Some}
use Rattle.rhai_grammar.specs.Prelude.{Text, same_text, Node, Nodes, Properties, same_value, has_key, property_count}
use Rattle.rhai_grammar.specs.Prelude.{node_shape, nodes_shape, Collected, with_arm_collected, with_case, with_cases}
use Rattle.rhai_grammar.specs.Prelude.{with_default_collected, with_value}
use Rattle.rhai_lower.specs.Nodes as node
use Rattle.rhai_lower.specs.Nodes.{Arms, Cases}
use Rattle.rhai_grammar.specs.CaseValues.{inclusion, property_value, range_end, range_of, range_over, range_start}
use Rattle.rhai_grammar.specs.CaseValues.{same_properties, same_values}
use Rattle.rhai_grammar.specs.Shapes.{arms_shape, cases_shape, properties_shape}
use Rattle.rhai_grammar.specs.Switches as S
use Rattle.rhai_grammar.specs.Switches.{arm_count, listed_range}

-- ---- values

starts : (n : Node) → range_start (node_shape n) ≡ range_start n
starts (node.integer n p) = refl
starts _ = refl

ends : (n : Node) → range_end (node_shape n) ≡ range_end n
ends (node.integer n p) = refl
ends (node.unit p) = refl
ends _ = refl

over : (i : Option Bool) (ns : Nodes) → range_over i (nodes_shape ns) ≡ range_over i ns
over i (node.one_node n (node.one_node m node.no_nodes)) = let e = starts n in let f = ends m in cc
over i node.no_nodes = refl
over i (node.one_node n node.no_nodes) = refl
over i (node.one_node n (node.one_node m (node.one_node k ns))) = refl

range : (n : Node) → range_of (node_shape n) ≡ range_of n
range (node.call c ns p) = over (inclusion c.op_token) ns
range _ = refl

key : (t : Text) (ps : Properties) → has_key t (properties_shape ps) ≡ has_key t ps
key t node.no_properties = refl
key t (node.one_property u p n ps) = let e = key t ps in cc

count : (ps : Properties) → property_count (properties_shape ps) ≡ property_count ps
count node.no_properties = refl
count (node.one_property u p n ps) = let e = count ps in cc

either : (b : Bool) (x y z : Node) → y ≡ node_shape z → (if b then node_shape x else y) ≡ node_shape (if b then x else z)
either true x y z e = refl
either false x y z e = e

property : (t : Text) (ps : Properties) → property_value t (properties_shape ps) ≡ node_shape (property_value t ps)
property t node.no_properties = refl
property t (node.one_property u p n ps) = either (same_text t u) n _ (property_value t ps) (property t ps)

sized : (k k2 l l2 : ℕ) (s s2 : Bool) → k2 ≡ k → l2 ≡ l → s2 ≡ s → ((k2 == l2) && s2) ≡ ((k == l) && s)
sized k k2 l l2 s s2 e f g = ap (λ x. (x == l2) && s2) e ∙ ap (λ x. (k == x) && s2) f ∙ ap (λ x. (k == l) && x) g

mutual
  same : (x y : Node) → same_value (node_shape x) (node_shape y) ≡ same_value x y
  same (node.unit p) (node.unit q) = refl
  same (node.boolean a p) (node.boolean b q) = refl
  same (node.integer m p) (node.integer n q) = refl
  same (node.character m p) (node.character n q) = refl
  same (node.string t p) (node.string u q) = refl
  same (node.pointer t m p) (node.pointer u n q) = refl
  same (node.array ns p) (node.array ms q) = same_list ns ms
  same (node.object_map ps p) (node.object_map rs q) =
      sized (property_count ps) _ (property_count rs) _ (same_properties ps rs) _ (count ps) (count rs) (same_map ps rs)
  same (node.call c ns p) (node.call d ms q) =
      let e = over (inclusion c.op_token) ns in let f = over (inclusion d.op_token) ms in cc
  same _ _ = refl

  same_list : (ns ms : Nodes) → same_values (nodes_shape ns) (nodes_shape ms) ≡ same_values ns ms
  same_list (node.one_node n ns) (node.one_node m ms) =
      ap (λ b. b && same_values (nodes_shape ns) (nodes_shape ms)) (same n m) ∙ ap (λ b. same_value n m && b) (same_list ns ms)
  same_list node.no_nodes node.no_nodes = refl
  same_list _ _ = refl

  same_map : (ps rs : Properties) → same_properties (properties_shape ps) (properties_shape rs) ≡ same_properties ps rs
  same_map node.no_properties rs = refl
  same_map (node.one_property t p n ps) rs =
      ap (λ b. (b && same_value (node_shape n) (property_value t (properties_shape rs))) && same_properties (properties_shape ps) (properties_shape rs)) (key t rs)
      ∙ ap (λ v. (has_key t rs && same_value (node_shape n) v) && same_properties (properties_shape ps) (properties_shape rs)) (property t rs)
      ∙ ap (λ b. (has_key t rs && b) && same_properties (properties_shape ps) (properties_shape rs)) (same n (property_value t rs))
      ∙ ap (λ b. (has_key t rs && same_value n (property_value t rs)) && b) (same_map ps rs)

-- ---- what was collected

abbrev pub collected_shape : Collected → Collected
collected_shape x = record x { arms = arms_shape x.arms; cases = cases_shape x.cases }

arm_total : (x : Arms) → arm_count (arms_shape x) ≡ arm_count x
arm_total node.no_arms = refl
arm_total (node.one_arm g a x) = let e = arm_total x in cc

one_more : (x : Arms) (g a : Node) → arms_shape (node.with_arm x g a) ≡ node.with_arm (arms_shape x) (node_shape g) (node_shape a)
one_more node.no_arms g a = refl
one_more (node.one_arm h b x) g a = let e = one_more x g a in cc

joined : (b : Bool) (x y z : Cases) → cases_shape y ≡ z → cases_shape (if b then x else y) ≡ (if b then cases_shape x else z)
joined true x y z e = refl
joined false x y z e = e

value : (x : Cases) (n : Node) (i : ℕ) → cases_shape (with_value x n i) ≡ with_value (cases_shape x) (node_shape n) i
value node.no_cases n i = refl
value (node.one_case v is x) n i =
    let e = same v n in
    let f = value x n i in
    joined (same_value v n) (node.one_case v (is ++ (i ∷ [])) x) (node.one_case v is (with_value x n i)) (node.one_case (node_shape v) is (with_value (cases_shape x) (node_shape n) i)) (ap (node.one_case (node_shape v) is) f)
    ∙ ap (λ b. if b then node.one_case (node_shape v) (is ++ (i ∷ [])) (cases_shape x) else node.one_case (node_shape v) is (with_value (cases_shape x) (node_shape n) i)) (sym e)

one_case : (i : ℕ) (b : Collected) (n : Node) → collected_shape (with_case i b n) ≡ with_case i (collected_shape b) (node_shape n)
one_case i b n =
    ap (λ x. record { arms = arms_shape b.arms; cases = x; ranges = b.ranges ++ listed_range (range_of n) i; default = b.default }) (value b.cases n i)
    ∙ ap (λ r. record { arms = arms_shape b.arms; cases = with_value (cases_shape b.cases) (node_shape n) i; ranges = b.ranges ++ listed_range r i; default = b.default }) (sym (range n))

all_cases : (i : ℕ) (b : Collected) (ns : Nodes) → collected_shape (with_cases i b ns) ≡ with_cases i (collected_shape b) (nodes_shape ns)
all_cases i b node.no_nodes = refl
all_cases i b (node.one_node n ns) =
    all_cases i (with_case i b n) ns ∙ ap (λ x. with_cases i x (nodes_shape ns)) (one_case i b n)

pub arm : (b : Collected) (ns : Nodes) (g a : Node) → collected_shape (with_arm_collected b ns g a) ≡ with_arm_collected (collected_shape b) (nodes_shape ns) (node_shape g) (node_shape a)
arm b ns g a =
    all_cases (arm_count b.arms) (record b { arms = node.with_arm b.arms g a }) ns
    ∙ ap (λ x. with_cases (arm_count b.arms) (record { arms = x; cases = cases_shape b.cases; ranges = b.ranges; default = b.default }) (nodes_shape ns)) (one_more b.arms g a)
    ∙ ap (λ i. with_cases i (record { arms = node.with_arm (arms_shape b.arms) (node_shape g) (node_shape a); cases = cases_shape b.cases; ranges = b.ranges; default = b.default }) (nodes_shape ns)) (sym (arm_total b.arms))

pub default_arm : (b : Collected) (a : Node) → collected_shape (with_default_collected b a) ≡ with_default_collected (collected_shape b) (node_shape a)
default_arm b a =
    ap (λ x. record { arms = x; cases = cases_shape b.cases; ranges = b.ranges; default = Some (arm_count b.arms) }) (one_more b.arms S.no_guard a)
    ∙ ap (λ i. record { arms = node.with_arm (arms_shape b.arms) S.no_guard (node_shape a); cases = cases_shape b.cases; ranges = b.ranges; default = Some i }) (sym (arm_total b.arms))
