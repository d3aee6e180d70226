-- Laws of the room for edits of blocks.
use Rattle.std.proofs.Common.{◌≡◌, ℕ, zero, suc, ◌+◌, ◌-◌, ◌*◌, ◌<◌, ◌≤◌, min, Bool, true, false, List, [], ◌∷◌, length, drop, get_or, set, refl, sym, arith}
use Rattle.std.proofs.lemmas.Bool.{true≢false}
use Rattle.std.specs.List.{remove}
use Rattle.mls_tree_index.specs.declared.entry.Entry.{Entry}
use Rattle.mls_tree_index.specs.Blocks.{least_free, room_of}

-- ---- free places

pub least_at : (bs : List (List Entry)) (b : ℕ) → b < length bs → least_free bs ≤ 512 - length (get_or bs b [])
unfolding least_free
least_at [] b lt = absurd (omega arith)
least_at (x ∷ bs) zero lt = omega arith
least_at (x ∷ bs) (suc b) lt = let rest = least_at bs b (omega arith) in omega arith

pub least_within : (bs : List (List Entry)) → least_free bs ≤ 512
unfolding least_free
least_within [] = omega arith
least_within (x ∷ bs) = omega arith

pub least_set : (n : ℕ) (bs : List (List Entry)) (b : ℕ) (v : List Entry) → n ≤ least_free bs → n ≤ 512 - length v → n ≤ least_free (set bs b v)
unfolding least_free
least_set n [] b v all own = all
least_set n (x ∷ bs) zero v all own = omega arith
least_set n (x ∷ bs) (suc b) v all own = let rest = least_set n bs b v (omega arith) own in omega arith

pub least_remove : (n : ℕ) (bs : List (List Entry)) (b : ℕ) → n ≤ least_free bs → n ≤ least_free (remove bs b)
unfolding least_free
least_remove n [] zero all = all
least_remove n [] (suc b) all = all
least_remove n (x ∷ bs) zero all = omega arith
least_remove n (x ∷ bs) (suc b) all = let rest = least_remove n bs b (omega arith) in omega arith

-- a block of a list that is read from its end
pub least_drop : (bs : List (List Entry)) (b : ℕ) → b < length bs → least_free (drop b bs) ≡ min (512 - length (get_or bs b [])) (least_free (drop (suc b) bs))
unfolding least_free
least_drop [] b lt = absurd (omega arith)
least_drop (x ∷ bs) zero lt = refl
least_drop (x ∷ bs) (suc b) lt = least_drop bs b (omega arith)

pub least_none : (bs : List (List Entry)) (b : ℕ) → length bs ≤ b → least_free (drop b bs) ≡ 512
unfolding least_free
least_none [] zero past = refl
least_none [] (suc b) past = refl
least_none (x ∷ bs) zero past = absurd (omega arith)
least_none (x ∷ bs) (suc b) past = least_none bs b (omega arith)

-- ---- room

pub room_own : (shared : Bool) (bs : List (List Entry)) (s : ℕ) → shared ≡ false → room_of shared bs s ≡ 2 * (s + least_free bs)
room_own true bs s own = absurd (true≢false own)
room_own false bs s own = refl

pub room_shared : (shared : Bool) (bs : List (List Entry)) (s : ℕ) → shared ≡ true → room_of shared bs s ≡ s
room_shared true bs s on = refl
room_shared false bs s on = absurd (true≢false (sym on))

room_spares : (shared : Bool) (bs : List (List Entry)) (s : ℕ) → s ≤ room_of shared bs s
room_spares true bs s = omega arith
room_spares false bs s = omega arith

-- an edit takes so much room at most
pub room_left : (n : ℕ) (was shared : Bool) (old new : List (List Entry)) (s t : ℕ) → s ≤ n + t → (was ≡ false → shared ≡ false) → (was ≡ false → 2 * (s + least_free old) ≤ n + 2 * (t + least_free new)) → room_of was old s ≤ n + room_of shared new t
room_left n true shared old new s t few own free = let rest = room_spares shared new t in omega arith
room_left n false shared old new s t few own free =
    let rest = room_own shared new t (own refl) in
    let more = free refl in
    omega arith
