-- Keys that are followed by code, the lowest one first.
use Rattle.std.proofs.Common.{◌≡◌, ℕ, suc, ◌+◌, ◌≤◌, if◌then◌else◌, List, [], ◌∷◌, ◌++◌, length, map, reverse, unwrap_or, Option, Some, None, is_some, Bool, refl, sym, subst, ◌∙◌, ap, ap₂, arith, append-nil, Bor}
use Rattle.std.proofs.lemmas.List.{length-map, length-reverse, reverse-reverse}
use Rattle.std.specs.Option.{option_copied}
use Rattle.mls_tree_model.specs.Term.{Term}
use Rattle.mls_tree_model.specs.Way.{Step, way}
use Rattle.mls_treekem.specs.declared.places.Place.{Place}
use Rattle.mls_treekem_model.specs.Keys.{Keys, PrivateKeys, all_keys, key_above}
use Rattle.mls_treekem_model.specs.Follow.{leaf_key_after, follow_edit}
use Rattle.mls_treekem_model.specs.Height.{follow_above, HasFollowed}
use Rattle.mls_treekem.specs.Place.{step_of, IsWay}
use Rattle.mls_treekem.proofs.Levels.{key_own}
use Rattle.mls_treekem_model.proofs.HeightLaws.{reverse-end}

follow_whole : (own : Option (List ℕ)) (ss : List Step) (ks : Keys) → follow_edit own ss ks ≡ follow_above ss ks ++ (leaf_key_after own ks ∷ [])
unfolding follow_edit follow_above
follow_whole own [] ks = refl
follow_whole own (s ∷ ss) ks = ap (λ zs. (if is_some s.parent then key_above (suc (length ss)) ks else None) ∷ zs) (follow_whole own ss ks)

length-follow : (ss : List Step) (ks : Keys) → length (follow_above ss ks) ≡ length ss
unfolding follow_above
length-follow [] ks = refl
length-follow (s ∷ ss) ks = ap suc (length-follow ss ks)

module _ (t : Term) (ks : Keys) where
  followed : List Place → Keys
  followed ps = follow_above (map (step_of t) ps) ks

  pub followed_none : (ps : List Place) (zs : Keys) → ps ≡ [] → zs ≡ follow_above (map (step_of t) ps) ks ++ zs
  unfolding follow_above
  followed_none ps zs e = sym (ap (λ qs. follow_above (map (step_of t) qs) ks ++ zs) e)

  pub followed_more : (p : Place) (ps all : List Place) (xs ys zs : Keys) (key : Option (List ℕ)) → all ≡ p ∷ ps → reverse xs ≡ follow_above (map (step_of t) ps) ks ++ zs → ys ≡ xs ++ (key ∷ []) → key ≡ (if is_some (step_of t p).parent then key_above (suc (length ps)) ks else None) → reverse ys ≡ follow_above (map (step_of t) all) ks ++ zs
  unfolding follow_above followed
  followed_more p ps all xs ys zs key e below pushed is =
      ap reverse pushed
      ∙ reverse-end xs key
      ∙ ap₂ (λ k ls. k ∷ ls) (is ∙ ap (λ n. if is_some (step_of t p).parent then key_above (suc n) ks else None) (sym (length-map ps (step_of t)))) below
      ∙ ap (λ qs. followed qs ++ zs) (sym e)

  pub followed_low : (ps : List Place) (xs ys : Keys) (n : ℕ) → ys ≡ [] → reverse xs ≡ follow_above (map (step_of t) ps) ks ++ reverse ys → length ps ≤ n → length xs ≤ n
  unfolding followed
  followed_low ps xs ys n none is low =
      let e : length xs ≡ length ps =
      sym (length-reverse xs) ∙ ap length (is ∙ ap (λ z. followed ps ++ reverse z) none ∙ append-nil (followed ps)) ∙ length-follow (map (step_of t) ps) ks ∙ length-map ps (step_of t)
      in omega arith

leaf_key : (own : Option (List ℕ)) (p : PrivateKeys) → Some (unwrap_or own p.own) ≡ leaf_key_after own (all_keys p)
leaf_key (Some k) p = refl
leaf_key None p = key_own p (reverse p.above) 0 (reverse-reverse p.above) refl

pub has_followed : (own : Option (List ℕ)) (t : Term) (p q : PrivateKeys) (ps : List Place) (xs ys : Keys) (k : List ℕ) → IsWay t p.leaf ps → ys ≡ [] → reverse xs ≡ follow_above (map (step_of t) ps) (all_keys p) ++ reverse ys → k ≡ unwrap_or own p.own → q.leaf ≡ p.leaf → q.own ≡ k → q.above ≡ reverse xs → HasFollowed own t p q
unfolding followed
has_followed own t p q ps xs ys k w none is own_is leaf same above =
    record {
      leaf = leaf;
      keys =
          ap₂ (λ a o. a ++ (Some o ∷ [])) (above ∙ is ∙ ap (λ z. followed t (all_keys p) ps ++ reverse z) none ∙ append-nil _) (same ∙ own_is)
          ∙ ap₂ (λ ss o. follow_above ss (all_keys p) ++ (o ∷ [])) w.steps (leaf_key own p)
          ∙ sym (follow_whole own (way 0 t p.leaf) (all_keys p));
    }

pub is_some-copied : {A : Type 0} (o : Option (Bor A)) → is_some o ≡ is_some (option_copied o)
is_some-copied None = refl
is_some-copied (Some x) = refl

pub key_is : (ks : Keys) (key : Option (List ℕ)) (test there : Bool) (n m : ℕ) → key ≡ (if test then key_above n ks else None) → test ≡ there → n ≡ suc m → key ≡ (if there then key_above (suc m) ks else None)
key_is ks key test there n m e f g = e ∙ ap₂ (λ b k. if b then key_above k ks else None) f g

pub way_read : (t : Term) (i : ℕ) (ps qs : List Place) → IsWay t i ps → qs ≡ ps → IsWay t i qs
way_read t i ps qs w e = subst (λ z. IsWay t i z) (sym e) w

pub way_low : (t : Term) (i : ℕ) (ps : List Place) → IsWay t i ps → length ps ≤ 32
way_low t i ps w = let l = w.low in omega arith

pub plus_one : (n m : ℕ) → n ≡ m → n + 1 ≡ suc m
plus_one n m e = omega arith
