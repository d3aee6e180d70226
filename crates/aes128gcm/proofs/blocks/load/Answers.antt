use Rattle.std.proofs.Common.{◌∷◌, [], rules, arith}
use Rattle.aes128gcm.proofs.LoadLemmas.{holds-load}
use Rattle.aes128gcm.proofs.blocks.load.Goals as goal

pub returns-clause-first : goal.returns-clause-first
returns-clause-first c =
    holds-load (c.even_word.result ∷ c.even_word-2.result ∷ c.even_word-3.result ∷ c.even_word-4.result ∷ c.odd_word.result ∷ c.odd_word-2.result ∷ c.odd_word-3.result ∷ c.odd_word-4.result ∷ []) c.transpose.result 0 c.args.a.now (omega arith) (search rules) (search rules) c.transpose.ensures c.even_word.ensures c.odd_word.ensures

pub returns-clause-second : goal.returns-clause-second
returns-clause-second c =
    holds-load (c.even_word.result ∷ c.even_word-2.result ∷ c.even_word-3.result ∷ c.even_word-4.result ∷ c.odd_word.result ∷ c.odd_word-2.result ∷ c.odd_word-3.result ∷ c.odd_word-4.result ∷ []) c.transpose.result 1 c.args.b.now (omega arith) (search rules) (search rules) c.transpose.ensures c.even_word-2.ensures c.odd_word-2.ensures

pub returns-clause-third : goal.returns-clause-third
returns-clause-third c =
    holds-load (c.even_word.result ∷ c.even_word-2.result ∷ c.even_word-3.result ∷ c.even_word-4.result ∷ c.odd_word.result ∷ c.odd_word-2.result ∷ c.odd_word-3.result ∷ c.odd_word-4.result ∷ []) c.transpose.result 2 c.args.c.now (omega arith) (search rules) (search rules) c.transpose.ensures c.even_word-3.ensures c.odd_word-3.ensures

pub returns-clause-fourth : goal.returns-clause-fourth
returns-clause-fourth c =
    holds-load (c.even_word.result ∷ c.even_word-2.result ∷ c.even_word-3.result ∷ c.even_word-4.result ∷ c.odd_word.result ∷ c.odd_word-2.result ∷ c.odd_word-3.result ∷ c.odd_word-4.result ∷ []) c.transpose.result 3 c.args.d.now (omega arith) (search rules) (search rules) c.transpose.ensures c.even_word-4.ensures c.odd_word-4.ensures
