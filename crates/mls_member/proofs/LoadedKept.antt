-- How kept proposals are loaded, one after the other.
use Rattle.std.proofs.Common.{◌≡◌, ℕ, ◌+◌, ◌<◌, ◌≤◌, List, [], ◌∷◌, ◌++◌, length, drop, Result, Ok, Err, refl, sym, ap, subst, ◌∙◌, append_assoc, get_or}
use Rattle.std.proofs.lemmas.List.{append-nil, drop_all}
use Rattle.mls_wire.specs.Reading.{◌>>=◌}
use Rattle.mls_saved.specs.declared.proposal.SavedProposal.{SavedProposal}
use Rattle.mls_public_group.proofs.Rest.{here}
use Rattle.mls_model.specs.Member.{KeptProposal}
use Rattle.mls_member.specs.Saved.{load_kept, load_all_kept}

-- what is loaded so far, and then the rest
abbrev with_rest : List KeptProposal → Result (List KeptProposal) ℕ → Result (List KeptProposal) ℕ
with_rest kept rest = rest >>= λ ks. Ok (kept ++ ks)

pub record AreLoaded (all rest : List SavedProposal) (kept : List KeptProposal) : Type 0 where
  pub answer : with_rest kept (load_all_kept rest) ≡ load_all_kept all

abbrev all_ok : List KeptProposal → Result (List KeptProposal) ℕ
all_ok ks = Ok ks

nothing_first : (r : Result (List KeptProposal) ℕ) → with_rest [] r ≡ r
nothing_first (Ok ks) = refl
nothing_first (Err n) = refl

one_more : (kept : List KeptProposal) (k : KeptProposal) (r : Result (List KeptProposal) ℕ) → with_rest kept (r >>= λ ks. Ok (k ∷ ks)) ≡ with_rest (kept ++ k ∷ []) r
one_more kept k (Ok ks) = ap (λ (l : List KeptProposal). all_ok l) (sym (append_assoc kept (k ∷ []) ks))
one_more kept k (Err n) = refl

pub loaded_first : (all : List SavedProposal) → AreLoaded all all []
loaded_first all = record { answer = nothing_first (load_all_kept all) }

loaded_next : (all rest : List SavedProposal) (x : SavedProposal) (kept : List KeptProposal) (k : KeptProposal) → AreLoaded all (x ∷ rest) kept → load_kept x ≡ Ok k → AreLoaded all rest (kept ++ k ∷ [])
unfolding load_all_kept
loaded_next all rest x kept k h e = record { answer = sym (one_more kept k (load_all_kept rest)) ∙ (rw e at h.answer) }

loaded_fails : (all rest : List SavedProposal) (x : SavedProposal) (kept : List KeptProposal) (n : ℕ) → AreLoaded all (x ∷ rest) kept → load_kept x ≡ Err n → load_all_kept all ≡ Err n
unfolding load_all_kept
loaded_fails all rest x kept n h e = sym (rw e at h.answer)

loaded_all : (all : List SavedProposal) (kept : List KeptProposal) → AreLoaded all [] kept → load_all_kept all ≡ Ok kept
unfolding load_all_kept
loaded_all all kept h = sym h.answer ∙ ap (λ (l : List KeptProposal). all_ok l) (append-nil kept)

pub loaded_step : (all : List SavedProposal) (i : ℕ) (x : SavedProposal) (kept : List KeptProposal) (k : KeptProposal) → i < length all → x ≡ get_or all i x → AreLoaded all (drop i all) kept → load_kept x ≡ Ok k → AreLoaded all (drop (i + 1) all) (kept ++ k ∷ [])
loaded_step all i x kept k lt e h one = loaded_next all (drop (i + 1) all) x kept k (subst (λ (l : List SavedProposal). AreLoaded all l kept) (here all i x lt e) h) one

pub loaded_stops : (all : List SavedProposal) (i : ℕ) (x : SavedProposal) (kept : List KeptProposal) (n : ℕ) → i < length all → x ≡ get_or all i x → AreLoaded all (drop i all) kept → load_kept x ≡ Err n → load_all_kept all ≡ Err n
loaded_stops all i x kept n lt e h one = loaded_fails all (drop (i + 1) all) x kept n (subst (λ (l : List SavedProposal). AreLoaded all l kept) (here all i x lt e) h) one

pub loaded_end : (all : List SavedProposal) (i : ℕ) (kept : List KeptProposal) → length all ≤ i → AreLoaded all (drop i all) kept → load_all_kept all ≡ Ok kept
loaded_end all i kept le h = loaded_all all kept (subst (λ (l : List SavedProposal). AreLoaded all l kept) (drop_all i all le) h)
