use Rattle.std.proofs.Common.{◌≡◌, ℕ, ◌+◌, ◌-◌, ◌*◌, ◌<◌, List, [], ◌∷◌, ◌++◌, length, take, drop, arith, rules, ap, sym, ◌∙◌, add-one, refl}
use Rattle.std.specs.Int.{div_ceil}
use Rattle.std.proofs.lemmas.List.{take_all}
use Rattle.mls_kdf.specs.Kdf.{joined_pieces, hmac, expand, hkdf_block, hkdf_blocks}
use Rattle.mls_kdf.proofs.Lists.{block_more}
use Rattle.mls_kdf.specs.Lengths.{length-hmac}
use Rattle.mls_kdf.proofs.Lengths.{length-hkdf_blocks}
use Rattle.mls_kdf.proofs.hmac_key.HmacKey.expand.Goals as goal
use Rattle.mls_kdf.proofs.hmac_key.HmacKey.expand.Goals.{then-i-eq0, else-i-eq0}

block_zero : (prk info : List ℕ) (i : ℕ) → i ≡ 0 → [] ≡ hkdf_block prk info i
unfolding hkdf_block
block_zero prk info i e = rw e refl

block_suc : (prk info previous block : List ℕ) (i : ℕ) → previous ≡ hkdf_block prk info i → block ≡ hmac prk (previous ++ info ++ (i + 1) ∷ []) → block ≡ hkdf_block prk info (i + 1)
unfolding hkdf_block
block_suc prk info previous block i e b = rw (b, e, add-one) refl

written_more : (prk info out block new : List ℕ) (i : ℕ) → block ≡ hkdf_block prk info (i + 1) → 32 * i < length out → length block ≡ 32
    → take (32 * i) out ≡ take (length out) (hkdf_blocks prk info i)
    → new ≡ take (32 * i) out ++ take (length out - 32 * i) block ++ drop (32 * i + 32) out
    → length new ≡ length out
    → take (32 * (i + 1)) new ≡ take (length new) (hkdf_blocks prk info (i + 1))
unfolding hkdf_blocks
written_more prk info out block new i b h k e w same =
    let at : 32 * (i + 1) ≡ 32 * i + 32 = omega arith in
    rw (at, same, add-one) (
    let more = block_more out (hkdf_blocks prk info i) block new (length out) (32 * i) refl h (length-hkdf_blocks prk info i) k e w in
    rw (b, add-one) at more
    )

pub loop-i-init : goal.loop-i-init
unfolding hkdf_blocks
loop-i-init c = search rules

pub loop-i-preserved : goal.loop-i-preserved
loop-i-preserved c =
    let previous : c.if-i-eq0.previous.now ≡ hkdf_block c.args.self.now (joined_pieces c.args.info.now) c.loop-i.i =
    elim c.if-i-eq0.branch [
      | then-i-eq0 w ↦ rw w.previous-is (block_zero _ _ c.loop-i.i w.if-i-eq0.true)
      | else-i-eq0 w ↦ rw w.previous-is (c.loop-i.invariant.block (omega arith))
    ] in
    let made = c.next_block-block.ensures in
    let block : c.next_block-block.result ≡ hkdf_block c.args.self.now (joined_pieces c.args.info.now) (c.loop-i.i + 1) = block_suc _ _ _ _ c.loop-i.i previous made in
    record {
      block = λ _. block;
      written = written_more c.args.self.now (joined_pieces c.args.info.now) c.loop-i.out c.next_block-block.result c.write_block.new.out c.loop-i.i block (omega arith) (ap length made ∙ length-hmac _ _) c.loop-i.invariant.written c.write_block.ensures c.write_block.auto.out;
    }

expanded : (prk info out : List ℕ) (n i : ℕ) → length out ≡ n → i ≡ div_ceil n 32
    → take (32 * i) out ≡ take n (hkdf_blocks prk info i) → out ≡ expand prk info n
unfolding expand
expanded prk info out n i l e w =
    let all : take (32 * i) out ≡ out = take_all (32 * i) out (omega arith) in
    sym all ∙ w ∙ ap (λ k. take n (hkdf_blocks prk info k)) e

pub returns-clause-ok : goal.returns-clause-ok
returns-clause-ok c =
    expanded _ _ c.loop-i.out (length c.args.out.now) c.loop-i.i c.loop-i.auto.out (omega arith) (rw c.loop-i.auto.out at c.loop-i.invariant.written)
