use Rattle.std.proofs.Common.{◌≡◌, ◌*◌, ◌^◌, ◌+◌, sym}
use Rattle.curve25519.specs.Field25519.{raise}
use Rattle.curve25519.proofs.Field25519.{raise-one}
use Rattle.field25519.proofs.Meaning.{combined, repeated}
use Rattle.field25519.proofs.element.Element.chain.Goals as goal

pub returns-clause-most : goal.returns-clause-most
returns-clause-most c =
    let x = c.args.self.now in
    let one : x ≡ raise x 1 = sym (raise-one x) in
    let two : c.square-z2.result ≡ raise x (1 + 1) = combined x _ _ _ (1) (1) one one c.square-z2.ensures in
    let eight : c.square_times.result ≡ raise x (2 * 2 ^ 2) = repeated x _ _ (2) 2 two c.square_times.ensures in
    let nine : c.multiply-z9.result ≡ raise x (1 + 8) = combined x _ _ _ (1) (8) one eight c.multiply-z9.ensures in
    let eleven : c.multiply-z11.result ≡ raise x (2 + 9) = combined x _ _ _ (2) (9) two nine c.multiply-z11.ensures in
    let doubled : c.square.result ≡ raise x (11 + 11) = combined x _ _ _ (11) (11) eleven eleven c.square.ensures in
    let five : c.multiply-five.result ≡ raise x (9 + 22) = combined x _ _ _ (9) (22) nine doubled c.multiply-five.ensures in
    let up-ten : c.square_times-2.result ≡ raise x (31 * 2 ^ 5) = repeated x _ _ (31) 5 five c.square_times-2.ensures in
    let ten : c.multiply-ten.result ≡ raise x (992 + 31) = combined x _ _ _ (992) (31) up-ten five c.multiply-ten.ensures in
    let up-twenty : c.square_times-3.result ≡ raise x (1023 * 2 ^ 10) = repeated x _ _ (1023) 10 ten c.square_times-3.ensures in
    let twenty : c.multiply-twenty.result ≡ raise x (1047552 + 1023) = combined x _ _ _ (1047552) (1023) up-twenty ten c.multiply-twenty.ensures in
    let up-forty : c.square_times-4.result ≡ raise x (1048575 * 2 ^ 20) = repeated x _ _ (1048575) 20 twenty c.square_times-4.ensures in
    let forty : c.multiply-forty.result ≡ raise x (1099510579200 + 1048575) = combined x _ _ _ (1099510579200) (1048575) up-forty twenty c.multiply-forty.ensures in
    let up-fifty : c.square_times-5.result ≡ raise x (1099511627775 * 2 ^ 10) = repeated x _ _ (1099511627775) 10 forty c.square_times-5.ensures in
    let fifty : c.multiply-fifty.result ≡ raise x (1125899906841600 + 1023) = combined x _ _ _ (1125899906841600) (1023) up-fifty ten c.multiply-fifty.ensures in
    let up-hundred : c.square_times-6.result ≡ raise x (1125899906842623 * 2 ^ 50) = repeated x _ _ (1125899906842623) 50 fifty c.square_times-6.ensures in
    let hundred : c.multiply-hundred.result ≡ raise x (1267650600228228275596796362752 + 1125899906842623) = combined x _ _ _ (1267650600228228275596796362752) (1125899906842623) up-hundred fifty c.multiply-hundred.ensures in
    let up-two_hundred : c.square_times-7.result ≡ raise x (1267650600228229401496703205375 * 2 ^ 100) = repeated x _ _ (1267650600228229401496703205375) 100 hundred c.square_times-7.ensures in
    let two_hundred : c.multiply-two_hundred.result ≡ raise x (1606938044258990275541962092339894951921974764381296132096000 + 1267650600228229401496703205375) = combined x _ _ _ (1606938044258990275541962092339894951921974764381296132096000) (1267650600228229401496703205375) up-two_hundred hundred c.multiply-two_hundred.ensures in
    let up-most : c.square_times-8.result ≡ raise x (1606938044258990275541962092341162602522202993782792835301375 * 2 ^ 50) = repeated x _ _ (1606938044258990275541962092341162602522202993782792835301375) 50 two_hundred c.square_times-8.ensures in
    combined x _ _ _ (1809251394333065553493296640760748560207343510400633813116523624223735808000) (1125899906842623) up-most fifty c.multiply-most.ensures

pub returns-clause-eleven : goal.returns-clause-eleven
returns-clause-eleven c =
    let x = c.args.self.now in
    let one : x ≡ raise x 1 = sym (raise-one x) in
    let two : c.square-z2.result ≡ raise x (1 + 1) = combined x _ _ _ (1) (1) one one c.square-z2.ensures in
    let eight : c.square_times.result ≡ raise x (2 * 2 ^ 2) = repeated x _ _ (2) 2 two c.square_times.ensures in
    let nine : c.multiply-z9.result ≡ raise x (1 + 8) = combined x _ _ _ (1) (8) one eight c.multiply-z9.ensures in
    combined x _ _ _ (2) (9) two nine c.multiply-z11.ensures
