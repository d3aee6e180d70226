-- Reading all of the bytes as sender data.
use Rattle.std.proofs.Common.{◌≡◌, ℕ, Bool, true, false, cond, eqb, List, [], ◌∷◌, length, Some, None, Result, Ok, Err, refl, sym, ap, ◌∙◌, arith}
use Rattle.std.proofs.lemmas.Bool.{cond-false, ne_eqb}
use Rattle.mls_private_message.specs.declared.sender_data.SenderData.{SenderData}
use Rattle.mls_private_message.specs.SenderData.{sender_data, only_value, whole_sender_data}

read_by : (bytes reader : List ℕ) (r : Result (SenderData × List ℕ) ℕ) → reader ≡ bytes → sender_data.read reader ≡ r → whole_sender_data bytes ≡ only_value r
unfolding whole_sender_data
read_by bytes reader r is e = ap (λ (x : List ℕ). only_value (sender_data.read x)) (sym is) ∙ ap only_value e

pub no_value : (bytes reader : List ℕ) (n : ℕ) → reader ≡ bytes → sender_data.read reader ≡ Err n → None ≡ whole_sender_data bytes
no_value bytes reader n is e = sym (read_by bytes reader (Err n) is e)

pub all_read : (bytes reader rest : List ℕ) (v : SenderData) → reader ≡ bytes → sender_data.read reader ≡ Ok (v, rest) → rest ≡ [] → Some v ≡ whole_sender_data bytes
all_read bytes reader rest v is e end =
    sym (read_by bytes reader (Ok (v, rest)) is e ∙ ap (λ (x : List ℕ). only_value (Ok (v, x))) end)

not_empty : (rest : List ℕ) → (rest ≡ [] → ⊥) → eqb (length rest) 0 ≡ false
not_empty [] h = absurd (h refl)
not_empty (x ∷ rest) h = ne_eqb (length (x ∷ rest)) 0 (λ e. absurd (omega arith))

-- a test that holds exactly at the end did not
more_left : (rest : List ℕ) (b : Bool) → b ≡ false → (rest ≡ [] → b ≡ true) → rest ≡ [] → ⊥
more_left rest b off on end = let wrong : b ≡ true = on end in absurd cc

pub bytes_left : (bytes reader rest : List ℕ) (v : SenderData) (b : Bool) → reader ≡ bytes → sender_data.read reader ≡ Ok (v, rest)
    → b ≡ false → (rest ≡ [] → b ≡ true) → None ≡ whole_sender_data bytes
bytes_left bytes reader rest v b is e off on =
    sym (read_by bytes reader (Ok (v, rest)) is e ∙ cond-false _ _ _ (not_empty rest (more_left rest b off on)))
