use Rattle.std.proofs.Common.{◌≡◌, ℕ, ◌-◌, ◌≤◌, List, ◌++◌, length, drop, replicate, rules, ap}
use Rattle.std.proofs.lemmas.List.{drop-replicate}
use Rattle.mls_kdf.specs.Kdf.{short_key}
use Rattle.mls_kdf.proofs.keyed_hash.key_block.Goals as goal

is_short : (key : List ℕ) → length key ≤ 64 → short_key key ≡ key
unfolding short_key
is_short key h = search rules

filled : (key got : List ℕ) → got ≡ key → length key ≤ 64 → got ++ drop (length key) (replicate 64 0) ≡ short_key key ++ replicate (64 - length (short_key key)) 0
filled key got e h = rw (e, is_short key h) (ap (λ z. key ++ z) (drop-replicate (length key) 64 0))

pub returns-else-key-gt64 : goal.returns-else-key-gt64
returns-else-key-gt64 c = filled _ _ c.copy_from_slice-else-key-gt64.ensures.after c.if-key-gt64.false
