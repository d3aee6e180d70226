-- Blanks at the end, taken one by one.
use Rattle.std.proofs.Common.{◌≡◌, ◌∙◌, ℕ, List, [], ◌∷◌, ◌++◌, true, false, ap, refl, reverse, sym}
use Rattle.std.proofs.lemmas.List.{reverse-append, reverse-reverse}
use Rattle.mls_cli_text.specs.HexFile.{is_blank, before_blanks, after_blanks}

front_blank : (b : ℕ) (bs : List ℕ) → is_blank b ≡ true → after_blanks (b ∷ bs) ≡ after_blanks bs
unfolding after_blanks
front_blank b bs h = rw h refl

front_other : (b : ℕ) (bs : List ℕ) → is_blank b ≡ false → after_blanks (b ∷ bs) ≡ b ∷ bs
unfolding after_blanks
front_other b bs h = rw h refl

backwards : (xs rest : List ℕ) (b : ℕ) → xs ≡ rest ++ b ∷ [] → reverse xs ≡ b ∷ reverse rest
backwards xs rest b e = ap reverse e ∙ reverse-append rest (b ∷ [])

pub blank_end : (xs rest : List ℕ) (b : ℕ) → xs ≡ rest ++ b ∷ [] → is_blank b ≡ true → before_blanks rest ≡ before_blanks xs
blank_end xs rest b e h = sym (ap (λ bs. reverse (after_blanks bs)) (backwards xs rest b e) ∙ ap reverse (front_blank b (reverse rest) h))

kept_backwards : (xs rest : List ℕ) (b : ℕ) → xs ≡ rest ++ b ∷ [] → is_blank b ≡ false → after_blanks (reverse xs) ≡ reverse xs
kept_backwards xs rest b e h = ap after_blanks (backwards xs rest b e) ∙ front_other b (reverse rest) h ∙ sym (backwards xs rest b e)

pub other_end : (xs rest : List ℕ) (b : ℕ) → xs ≡ rest ++ b ∷ [] → is_blank b ≡ false → xs ≡ before_blanks xs
other_end xs rest b e h = sym (ap reverse (kept_backwards xs rest b e h) ∙ reverse-reverse xs)
