use Rattle.std.proofs.Common.{Bor, Option, sym, ◌∙◌, ap}
use Rattle.mls_types.specs.declared.update_path.HpkeCiphertext.{HpkeCiphertext}
use Rattle.std.specs.Option.{option_copied}
use Rattle.mls_types.proofs.CiphertextLaws.{copied_is, some_of}
use Rattle.mls_types.proofs.ciphertexts.lend_item.Goals as goal

pub returns-in-Some : goal.returns-in-Some
returns-in-Some c =
    ap some_of c.of.ensures ∙ ap (λ (r : Option (Bor HpkeCiphertext)). option_copied r) (sym c.in-Some.is) ∙ copied_is c.get.result c.args.number c.args.items.now c.get.ensures.lookup

pub returns-in-None : goal.returns-in-None
returns-in-None c = ap (λ (r : Option (Bor HpkeCiphertext)). option_copied r) (sym c.in-None.is) ∙ copied_is c.get.result c.args.number c.args.items.now c.get.ensures.lookup
