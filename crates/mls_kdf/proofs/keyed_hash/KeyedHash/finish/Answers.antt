use Rattle.mls_kdf.specs.Kdf.{hmac}
use Rattle.mls_kdf.proofs.keyed_hash.KeyedHash.finish.Goals as goal

pub returns : goal.returns
unfolding hmac
returns c = λ key text held.
    let fed = c.update.ensures _ held.outer in
    let inner = rw (c.finalize.ensures _ held.inner) at fed in
    c.finalize-2.ensures _ inner
