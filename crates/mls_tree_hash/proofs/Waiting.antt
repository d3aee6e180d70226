-- What a feed holds: what its hasher has, and behind that what waits.
use Rattle.std.proofs.Common.{◌≡◌, ◌∙◌, ℕ, List, ◌++◌, take, append_assoc, append-nil, sym, subst, ap}
use Rattle.sha2.specs.Hashers.{Holds256}
use Rattle.sha2.specs.declared.Sha256.{Sha256}
use Rattle.mls_tree_hash.specs.declared.feed.Feed.{Feed}
use Rattle.mls_tree_hash.specs.Feeds.{Holds, Feeds}

-- bytes that wait behind the others
pub feeds_waiting : {a b : Feed} {bytes : List ℕ} → a.hasher ≡ b.hasher → take b.waiting b.block ≡ take a.waiting a.block ++ bytes → Feeds a bytes b
unfolding Holds
feeds_waiting {a} {b} {bytes} same more = record {
  fed = λ text held. (
    held.0,
    subst (λ (h : Sha256). Holds256 h held.0) same held.1,
    ap (λ (l : List ℕ). held.0 ++ l) more ∙ sym (append_assoc held.0 (take a.waiting a.block) bytes) ∙ ap (λ (l : List ℕ). l ++ bytes) held.2,
  );
}

-- where nothing waits, the hasher has all
pub hasher_has_all : (a : Feed) (text : List ℕ) → a.waiting ≡ 0 → Holds a text → Holds256 a.hasher text
unfolding Holds
hasher_has_all a text none held =
    subst (λ (l : List ℕ). Holds256 a.hasher l) (sym (append-nil held.0) ∙ ap (λ (n : ℕ). held.0 ++ take n a.block) (sym none) ∙ held.2) held.1

-- bytes that the hasher takes where nothing waits
pub feeds_hasher : {a b : Feed} {bytes : List ℕ} → a.waiting ≡ 0 → b.waiting ≡ 0 → ((text : List ℕ) → Holds256 a.hasher text → Holds256 b.hasher (text ++ bytes)) → Feeds a bytes b
unfolding Holds
feeds_hasher {a} {b} {bytes} before after update = record {
  fed = λ text held. (
    text ++ bytes,
    update text (hasher_has_all a text before held),
    ap (λ (n : ℕ). (text ++ bytes) ++ take n b.block) after ∙ append-nil (text ++ bytes),
  );
}
