use Rattle.std.proofs.Common.{◌∷◌, [], ap, codes, sym}
use Rattle.json.specs.Token.{key}
use Rattle.mls_wire.specs.Names.{refusal_name}
use Rattle.mls_cli_text.specs.declared.page.Ending.TheVariants.{Refused}
use Rattle.mls_cli_json_page.specs.JsonPage.{ending_member, named_value}
use Rattle.mls_cli_json_page.proofs.Writing.{behind, same}
use Rattle.mls_cli_json_page.proofs.put_ending.Goals as goal

pub returns-in_ok-key-in-Refused : goal.returns-in_ok-key-in-Refused
returns-in_ok-key-in-Refused c =
    let q = c.put_named.result in
    let old = c.args.writer.now in
    let mid = c.key.new.self in
    let new = c.put_named.new.writer in
    let n = c.in-Refused.number in
    same q old new (ending_member (Refused n)) (ending_member c.args.ending) (ap ending_member (sym c.in-Refused.is))
    (behind q old mid new (key (codes "refused") ∷ []) (named_value n (refusal_name n)) (c.in_ok-key-in-Refused.ensures.ok, c.in_ok-key-in-Refused.ensures.room.0)
    (same q mid new (named_value n c.refusal_name.result.now) (named_value n (refusal_name n)) (ap (named_value n) c.refusal_name.ensures) c.put_named.ensures))
