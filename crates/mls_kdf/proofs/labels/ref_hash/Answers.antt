use Rattle.mls_kdf.specs.Kdf.{ref_hash}
use Rattle.mls_kdf.proofs.Lists.{two_vectors}
use Rattle.mls_kdf.proofs.labels.ref_hash.Goals as goal

pub returns : goal.returns
unfolding ref_hash
returns c =
    let pieces = two_vectors c.as_slice.result.now c.as_bytes.result.now c.as_slice-2.result.now c.args.value.now in
    rw (pieces, c.as_slice.ensures, c.content_header-label_header.ensures, c.as_bytes.ensures.value, c.as_slice-2.ensures, c.content_header-value_header.ensures) at c.hash.ensures
