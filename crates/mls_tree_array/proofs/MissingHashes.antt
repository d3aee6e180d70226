-- How many kept hashes are missing, by the root and its sides.
use Rattle.std.proofs.Common.{◌≡◌, ℕ, ◌+◌, ◌-◌, ◌^◌, ◌<◌, List, ◌∷◌, length, get_or, take, drop, min, Option, None, sym, ◌∙◌, ap, arith}
use Rattle.std.proofs.lemmas.List.{take-append-drop, drop_more}
use Rattle.mls_tree_model.specs.Term.{Term}
use Rattle.mls_tree_hash.specs.Counter.{counted}
use Rattle.mls_tree_array.specs.KeptHashes.{hashes_of, cold_places}
use Rattle.mls_tree_array.proofs.KeptLaws.{cold-append, cold-cons, none_cold}

counted_by : (g n a b : ℕ) → (n + min a (g - n)) + min b (g - (n + min a (g - n))) ≡ n + min (a + b) (g - n)
counted_by g n a b = omega arith

pub counted_more : (n a b : ℕ) → counted (counted n a) b ≡ counted n (a + b)
counted_more n a b = counted_by (2 ^ 64 - 1) n a b

-- how many are missing where the root's is
pub missing_sides : (m : ℕ) (hs : List (Option (List ℕ))) → m < length hs → get_or hs m None ≡ None → cold_places hs ≡ (cold_places (take m hs) + cold_places (drop (m + 1) hs)) + 1
missing_sides m hs within none =
    let cut : drop m hs ≡ None ∷ drop (m + 1) hs = drop_more hs m None within ∙ ap (λ o. o ∷ drop (m + 1) hs) none in
    let sum : cold_places hs ≡ cold_places (take m hs) + cold_places (None ∷ drop (m + 1) hs) = ap cold_places (sym (take-append-drop m hs)) ∙ cold-append (take m hs) (drop m hs) ∙ ap (λ ys. cold_places (take m hs) + cold_places ys) cut in
    let one : cold_places (None ∷ drop (m + 1) hs) ≡ 1 + cold_places (drop (m + 1) hs) = cold-cons None (drop (m + 1) hs) in
    omega arith

pub none_missing : (n b : ℕ) (t : Term) (hs : List (Option (List ℕ))) → hs ≡ hashes_of b t → n ≡ counted n (cold_places hs)
none_missing n b t hs all = let e : cold_places hs ≡ 0 = ap cold_places all ∙ none_cold b t in rw e (omega arith)

pub branch_counts : (m : ℕ) (hs : List (Option (List ℕ))) (d e f g : ℕ) → m < length hs → get_or hs m None ≡ None → e ≡ counted d (cold_places (take m hs)) → f ≡ counted e (cold_places (drop (m + 1) hs)) → g ≡ counted f 1 → g ≡ counted d (cold_places hs)
branch_counts m hs d e f g within none one two three =
    three
    ∙ ap (λ n. counted n 1) (two ∙ ap (λ n. counted n (cold_places (drop (m + 1) hs))) one ∙ counted_more d (cold_places (take m hs)) (cold_places (drop (m + 1) hs)))
    ∙ counted_more d (cold_places (take m hs) + cold_places (drop (m + 1) hs)) 1
    ∙ ap (counted d) (sym (missing_sides m hs within none))
