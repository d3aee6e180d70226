use Rattle.std.proofs.Common.{◌≡◌, ℕ, List, ◌++◌, lit<, append_assoc, ap, ◌∙◌}
use Rattle.std.specs.Int.{w16}
use Rattle.std.proofs.lemmas.Result.{err_from_is_err_and}
use Rattle.mls_wire.specs.Reading.{uint}
use Rattle.mls_leaf.proofs.Codecs.{Refuses-whole}
use Rattle.mls_leaf.specs.KeyPackage.{key_package}
use Rattle.mls_types.specs.Message.{mls_message}
use Rattle.mls_types.proofs.message.MlsMessageCodec.write.Goals as goal

-- three texts, one added after the other
added : (old a b d new-1 new-2 new-3 : List ℕ) → new-3 ≡ new-2 ++ d → new-2 ≡ new-1 ++ b → new-1 ≡ old ++ a → new-3 ≡ old ++ (a ++ (b ++ d))
added old a b d new-1 new-2 new-3 third second first =
    third ∙ ap (λ (l : List ℕ). l ++ d) (second ∙ ap (λ (l : List ℕ). l ++ b) first) ∙ append_assoc (old ++ a) b d ∙ append_assoc old a (b ++ d)

pub returns-in_err-write-in-KeyPackage : goal.returns-in_err-write-in-KeyPackage
unfolding mls_message
returns-in_err-write-in-KeyPackage c =
    let p = err_from_is_err_and c.from_residual-in_err-write-in-KeyPackage.result c.from_residual-in_err-write-in-KeyPackage.ensures.1 in
    rw (p.1, p.2, c.in-KeyPackage.is) (Refuses-whole (key_package.Fits c.in-KeyPackage.key_package) _ c.in_err-write-in-KeyPackage.field-0.0 (λ f. f.1) c.in_err-write-in-KeyPackage.ensures)

pub returns-in_ok-write-in-KeyPackage : goal.returns-in_ok-write-in-KeyPackage
unfolding mls_message
returns-in_ok-write-in-KeyPackage c =
    rw c.in-KeyPackage.is (
      (lit< tt, c.in_ok-write-in-KeyPackage.ensures.0),
      added c.args.writer.now (uint w16 1) (uint w16 5) (key_package.spell c.in-KeyPackage.key_package) c.u16.new.self c.u16-in-KeyPackage.new.self c.write-in-KeyPackage.new.writer
          c.in_ok-write-in-KeyPackage.ensures.1 c.in_ok-u16-in-KeyPackage.ensures c.in_ok-u16.ensures,
    )
