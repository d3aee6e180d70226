-- A commit's path as a whole: made, received, and taken over.
use Rattle.std.proofs.Common.{◌≡◌, ℕ, List, map, Some, Ok, refl, sym, ◌∙◌, subst, ne_eqb}
use Rattle.std.proofs.lemmas.Bool.{cond-false}
use Rattle.mls_leaf.specs.declared.leaf.LeafNode.{LeafNode}
use Rattle.mls_tree_model.specs.Term.{Term, width, leaf_at}
use Rattle.mls_tree_model.specs.Way.{way}
use Rattle.mls_tree_model.specs.Merge.{merge}
use Rattle.mls_tree_model.specs.Laws.{IsIn}
use Rattle.mls_tree_model.proofs.MergeLaws.{width-merge}
use Rattle.mls_tree_model.proofs.PlaceLaws.{leaf_at-put, leaf_at-merge}
use Rattle.mls_treekem_model.specs.Keys.{Exact, leaf_only}
use Rattle.mls_treekem_model.specs.Make.{Climb, climb_make, path_keys}
use Rattle.mls_treekem_model.specs.Seal.{IsPathOf}
use Rattle.mls_treekem_model.specs.Open.{climb_open}
use Rattle.mls_treekem_model.specs.Join.{take_keys, secret_for}
use Rattle.mls_treekem_model.specs.Laws.{CommitAgree, JoinAgree, shared_keys}
use Rattle.mls_treekem_model.proofs.MakeLaws.{make_exact}
use Rattle.mls_treekem_model.proofs.MergedLaws.{path_has_keys}
use Rattle.mls_treekem_model.proofs.SealLaws.{made_path}
use Rattle.mls_treekem_model.proofs.OpenLaws.{climb_exact, climb_agree}
use Rattle.mls_treekem_model.proofs.JoinLaws.{take_exact, take_agree}

pub commit_agree : CommitAgree
commit_agree c l context added rnd b t i j h x start sk ks ns long two good exact old own made =
    let path : IsPathOf c context added (way b t i) start ns = made_path c context added rnd (way b t i) start ns made in
    let keys : map (λ n. n.encryption_key) ns ≡ path_keys c (way b t i) start = path_has_keys c context added start (way b t i) ns path in
    let got : Climb = record { secret = (climb_make c (way b t i) start sk).secret; keys = shared_keys (way b t i) j (climb_make c (way b t i) start sk).keys ks } in
    let opens : climb_open c context added (way b t i) j ks ns ≡ Ok got = climb_agree c l context added b t i j start sk ks ns long two.first two.second two.apart good exact old path in
    record {
      taken = got;
      opens = opens;
      same_secret = refl;
      receiver_exact = climb_exact c context added b t i j ks ns h x got two.first two.second two.apart exact opens;
      maker_exact = subst (λ (z : List (List ℕ)). Exact c b (merge b t i z h x) i (climb_make c (way b t i) start sk).keys) (sym keys) (make_exact c b t i h x start sk own);
    }

-- ---- a joiner

-- a path leaves the leaves of others
leaf_kept : (b : ℕ) (t : Term) (i j : ℕ) (ks : List (List ℕ)) (h : List ℕ) (x : LeafNode) → IsIn b t i → IsIn b t j → (j ≡ i → ⊥) → leaf_at b (merge b t i ks h x) j ≡ leaf_at b t j
leaf_kept b t i j ks h x hi hj ne =
    leaf_at-merge b t i ks h x j ∙ leaf_at-put b t i (Some x) j hi.low hi.high hj.low hj.high ∙ cond-false _ _ _ (ne_eqb j i ne)

pub join_agree : JoinAgree
join_agree c t i j h x y start sk own two leaf is_own lists =
    let keys : List (List ℕ) = path_keys c (way 0 t i) start in
    let made : Term = merge 0 t i keys h x in
    let size : width made ≡ width t = width-merge 0 t i keys h x in
    let got : Climb = record { secret = (climb_make c (way 0 t i) start sk).secret; keys = shared_keys (way 0 t i) j (climb_make c (way 0 t i) start sk).keys (leaf_only (way 0 t j) own) } in
    let takes : take_keys c made i j own (secret_for (way 0 t i) j start) ≡ Ok got = take_agree c t i j h x y start sk own two.first two.second two.apart leaf is_own lists in
    let first : IsIn 0 t i = two.first in
    let second : IsIn 0 t j = two.second in
    let there : leaf_at 0 made j ≡ Some y = leaf_kept 0 t i j keys h x first second two.apart ∙ leaf in
    record {
      taken = got;
      takes = takes;
      same_secret = refl;
      joiner_exact = take_exact c made i j y own (secret_for (way 0 t i) j start) got (record { low = first.low; high = rw size first.high }) (record { low = second.low; high = rw size second.high }) two.apart there is_own takes;
    }
