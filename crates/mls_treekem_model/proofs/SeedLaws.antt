-- Seals are numbered by a uint32.
use Rattle.std.proofs.Common.{◌≡◌, ℕ, ◌%◌, ◌^◌, List, ap, arith}
use Rattle.std.specs.Prelude.{codes}
use Rattle.mls_wire.specs.Reading.{uint}
use Rattle.mls_wire.proofs.LawsLemmas.{low_bytes}
use Rattle.mls_kdf.specs.Kdf.{expand_with_label}
use Rattle.mls_treekem_model.specs.Seeds.{seal_seed}
use Rattle.mls_treekem_model.specs.Laws.{SeedWraps}

pub seed_low : (seed : List ℕ) (m n : ℕ) → m % 2 ^ 32 ≡ n % 2 ^ 32 → seal_seed seed m ≡ seal_seed seed n
unfolding seal_seed uint
seed_low seed m n e = ap (λ bytes. expand_with_label seed (codes "seed seal") bytes 32) (low_bytes m n e)

pub seed_wraps : SeedWraps
seed_wraps seed n = seed_low seed n (n % 2 ^ 32) (omega arith)
