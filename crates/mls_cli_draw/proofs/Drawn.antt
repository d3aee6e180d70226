-- Rows, and the picture.
use Rattle.std.proofs.Common.{◌≡◌, ◌∙◌, ◌+◌, ◌-◌, ◌*◌, ◌<◌, ◌++◌, ℕ, zero, suc, Bool, List, [], ◌∷◌, Option, Some, None, encode_utf8, encode_utf8_all, get_or, length, map, take, refl, ap, sym, arith, append-nil}
use Rattle.std.proofs.lemmas.List.{map-append, take_more}
use Rattle.std.proofs.lemmas.Str.{encodes-append}
use Rattle.std.specs.List.{range_with_len}
use Rattle.mls_leaf.specs.declared.node.Node.{Node}
use Rattle.mls_tree_model.specs.Term.{Term, size, width}
use Rattle.mls_tree_model.specs.Arrays.{before, without_last_blanks as cut_nodes, in_order, node_at, to_nodes}
use Rattle.mls_tree_model.proofs.ArrayLaws.{node-in_order}
use Rattle.mls_tree_model.proofs.ShapeLaws.{size-width}
use Rattle.mls_cli_draw.specs.Picture.{characters_of, cut_to, is_on, node_text, row, stem}
use Rattle.mls_cli_draw.specs.Stems.{IsOfTree}
use Rattle.mls_cli_draw.specs.declared.row.Row.{Row}

-- ---- characters

pub one_character : (cs : List ℕ) (i c : ℕ) (old new : List ℕ) → i < length cs → c ≡ get_or cs i c → old ≡ encode_utf8_all (take i cs) → new ≡ old ++ encode_utf8 c → new ≡ encode_utf8_all (take (i + 1) cs)
one_character cs i c old new lt is before pushed =
    let more : take (i + 1) cs ≡ take i cs ++ c ∷ [] = take_more cs i c lt ∙ ap (λ (d : ℕ). take i cs ++ d ∷ []) (sym is) in
    let last : encode_utf8_all (c ∷ []) ≡ encode_utf8 c = append-nil (encode_utf8 c) in
    pushed ∙ ap (λ bs. bs ++ encode_utf8 c) before ∙ sym (ap encode_utf8_all more ∙ encodes-append (take i cs) (c ∷ []) ∙ ap (λ bs. encode_utf8_all (take i cs) ++ bs) last)

-- ---- nodes

look_before : (c : Option Node) (ys cs : List (Option Node)) (x : ℕ) → ((y : ℕ) → get_or ys y None ≡ get_or cs y None) → get_or (before c ys) x None ≡ get_or (c ∷ cs) x None
look_before None [] cs zero same = refl
look_before None [] cs (suc x) same = same x
look_before None (d ∷ ds) cs zero same = refl
look_before None (d ∷ ds) cs (suc x) same = same x
look_before (Some n) ys cs zero same = refl
look_before (Some n) ys cs (suc x) same = same x

look_cut : (xs : List (Option Node)) (x : ℕ) → get_or (cut_nodes xs) x None ≡ get_or xs x None
unfolding cut_nodes
look_cut [] x = refl
look_cut (c ∷ cs) x = look_before c (cut_nodes cs) cs x (look_cut cs)

pub sent_node : (t : Term) (x : ℕ) → get_or (to_nodes t) x None ≡ node_at 0 t x
unfolding to_nodes
sent_node t x =
    let here : 2 * 0 + x ≡ x = omega arith in
    look_cut (in_order t) x ∙ sym (node-in_order 0 t x) ∙ ap (λ n. node_at 0 t n) here

pub row_is : (h : ℕ) (t : Term) (leaves : ℕ) (nodes : List (Option Node)) (path : List ℕ) (x : ℕ) (columns : Option ℕ) (start a b out : List ℕ) (on : Bool) (found : Option Node) → IsOfTree h t leaves nodes → start ≡ [] → a ≡ start ++ stem t x → b ≡ a ++ node_text on x found → on ≡ is_on path x → found ≡ get_or nodes x None → out ≡ cut_to columns b → out ≡ row columns path t x
unfolding row
row_is h t leaves nodes path x columns start a b out on found is e first second marked look cuts =
    let front : a ≡ stem t x = first ∙ ap (λ cs. cs ++ stem t x) e in
    let node : found ≡ node_at 0 t x = look ∙ ap (λ ns. get_or ns x None) is.nodes_are ∙ sent_node t x in
    cuts
    ∙ ap (cut_to columns)
    (second ∙ ap (λ cs. cs ++ node_text on x found) front ∙ ap (λ n. stem t x ++ node_text on x n) node
    ∙ ap (λ (m : Bool). stem t x ++ node_text m x (node_at 0 t x)) marked)

-- ---- the picture

range_more : (a n : ℕ) → range_with_len a (suc n) ≡ range_with_len a n ++ (a + n) ∷ []
range_more a zero = let e : a ≡ a + 0 = omega arith in ap (λ m. m ∷ []) e
range_more a (suc n) =
    let e : (a + 1) + n ≡ a + suc n = omega arith in
    ap (λ ms. a ∷ ms) (range_more (a + 1) n ∙ ap (λ m. range_with_len (a + 1) n ++ m ∷ []) e)

pub one_row : (columns : Option ℕ) (path : List ℕ) (t : Term) (x : ℕ) (r : Row) (old new : List Row) → map characters_of old ≡ map (row columns path t) (range_with_len 0 x) → new ≡ old ++ r ∷ [] → r.characters.items ≡ row columns path t x → map characters_of new ≡ map (row columns path t) (range_with_len 0 (x + 1))
one_row columns path t x r old new before pushed is =
    let here : 0 + x ≡ x = omega arith in
    let next : x + 1 ≡ suc x = omega arith in
    let ranges : range_with_len 0 (x + 1) ≡ range_with_len 0 x ++ x ∷ [] = ap (range_with_len 0) next ∙ range_more 0 x ∙ ap (λ m. range_with_len 0 x ++ m ∷ []) here in
    ap (map characters_of) pushed ∙ map-append characters_of old (r ∷ []) ∙ ap (λ rs. rs ++ r.characters.items ∷ []) before
    ∙ ap (λ cs. map (row columns path t) (range_with_len 0 x) ++ cs ∷ []) is
    ∙ sym (ap (map (row columns path t)) ranges ∙ map-append (row columns path t) (range_with_len 0 x) (x ∷ []))

pub all_nodes : (t : Term) (leaves : ℕ) → leaves ≡ width t → 2 * leaves - 1 ≡ size t
all_nodes t leaves e = omega (arith, size-width t, e)

pub some_leaf : (t : Term) (leaves : ℕ) → leaves ≡ width t → 0 < 2 * leaves
some_leaf t leaves e = omega (arith, size-width t, e)
