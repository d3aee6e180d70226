-- The two halves of 64 bytes.
use Rattle.std.proofs.Common.{◌≡◌, ℕ, ◌≤◌, List, ◌++◌, length, take, drop, ap, ap₂, sym, subst, ◌∙◌, length-drop, ◌-◌, arith}
use Rattle.std.proofs.Math.Seq.{take-append_seam, drop-append_seam}
use Rattle.std.proofs.lemmas.List.{drop_all, take_all, append-nil}
use borrow.Rule.Slice.PartMut.{put_mid}

pub glued : (a b r s z : List ℕ) → a ≡ r → b ≡ s → length r ≡ 32 → length z ≡ 32 → put_mid 32 32 (a ++ z) b ≡ r ++ s
glued a b r s z ea eb lr lz =
    ap₂ (λ x y. put_mid 32 32 (x ++ z) y) ea eb
    ∙ ap₂ ◌++◌ (ap (λ n. take n (r ++ z)) (sym lr) ∙ take-append_seam r z)
    (ap (λ t. s ++ t) (ap (drop 32) (ap (λ n. drop n (r ++ z)) (sym lr) ∙ drop-append_seam r z) ∙ drop_all 32 z (subst (λ n. n ≤ 32) (sym lz) (omega arith))) ∙ append-nil s)

pub rest : (d : List ℕ) → length d ≡ 64 → take 32 (drop 32 d) ≡ drop 32 d
rest d l = take_all 32 (drop 32 d) (subst (λ n. n ≤ 32) (sym (length-drop 32 d ∙ ap (λ n. n - 32) l)) (omega arith))
