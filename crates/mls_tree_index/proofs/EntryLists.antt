-- Lists of entries, and of their numbers.
use Rattle.std.proofs.Common.{◌≡◌, ℕ, suc, ◌<◌, true, List, [], ◌∷◌, length, get_or, Option, is_some, refl, sym, ◌∙◌, ap, arith}
use Rattle.std.proofs.lemmas.List.{get_or-map}
use Rattle.std.specs.List.{All, insert, remove}
use Rattle.mls_tree_index.specs.declared.entry.Entry.{Entry}
use Rattle.mls_tree_index.specs.Order.{Entries, IsPart}
use Rattle.mls_tree_index.specs.Entries.{AreOrdered, IsEntry, numbers_of}
use Rattle.mls_tree_index.proofs.BlockLaws.{map_insert, map_remove}

pub number_at : (es : List Entry) (i : ℕ) (d : Entry) → i < length es → get_or (numbers_of es) i 0 ≡ (get_or es i d).number
number_at es i d lt = get_or-map (λ e. e.number) es i d 0 lt

pub length_numbers : (es : List Entry) → length (numbers_of es) ≡ length es
length_numbers [] = refl
length_numbers (e ∷ es) = ap suc (length_numbers es)

pub numbers_put : (es : List Entry) (p : ℕ) (e : Entry) → numbers_of (insert es p e) ≡ insert (numbers_of es) p e.number
numbers_put es p e = map_insert (λ (d : Entry). d.number) es p e

pub numbers_taken : (es : List Entry) (p : ℕ) → numbers_of (remove es p) ≡ remove (numbers_of es) p
numbers_taken es p = map_remove (λ (d : Entry). d.number) es p

-- each key of b is one of c
module _ (b c : ℕ → Option (List ℕ)) (part : IsPart b c) where
  entry_whole : (e : Entry) → IsEntry b e → IsEntry c e
  entry_whole e is = record {
    key = is.key;
    here = part e.number (ap is_some is.here) ∙ is.here;
    front = is.front;
    bytes = is.bytes;
  }

  entry_part : (e : Entry) → is_some (b e.number) ≡ true → IsEntry c e → IsEntry b e
  entry_part e some is = record {
    key = is.key;
    here = sym (part e.number some) ∙ is.here;
    front = is.front;
    bytes = is.bytes;
  }

  pub keyed_whole : (es : List Entry) → All (IsEntry b) es → All (IsEntry c) es
  keyed_whole es all k d lt = entry_whole (get_or es k d) (all k d lt)

  -- entries of c are such of b where their numbers are
  pub ordered_part : (es : List Entry) → Entries b (numbers_of es) → All (IsEntry c) es → AreOrdered b es
  ordered_part es is all = record {
    numbers = is;
    keyed = λ k d lt.
        let wide = length_numbers es in
        entry_part (get_or es k d) (ap (λ n. is_some (b n)) (sym (number_at es k d lt)) ∙ is.keyed k (omega arith)) (all k d lt);
  }
