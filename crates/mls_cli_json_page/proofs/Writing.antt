-- Tokens that are written behind others.
use Rattle.std.proofs.Common.{◌≡◌, ◌∙◌, ◌+◌, ◌++◌, ℕ, List, [], ◌∷◌, None, Result, Ok, Err, ap, subst, slice_get, append_assoc}
use Rattle.json.specs.Token.{Token}
use Rattle.json.specs.Written.{Writes, Written}
use Rattle.mls_cli_text.specs.Text.{Entry}
use Rattle.mls_cli_json_page.specs.JsonPage.{member_at, member_of, name_at, name_before, WritesAll}

pub behind : {T X : Type 0} (q : Result T X) (old mid new : Written) (a b : List Token) → (mid.tokens ≡ old.tokens ++ a) × (mid.before ≡ old.before) → WritesAll q mid new b → WritesAll q old new (a ++ b)
behind (Ok u) old mid new a b e f = (f.0 ∙ ap (λ ts. ts ++ b) e.0 ∙ append_assoc old.tokens a b, f.1 ∙ e.1)
behind (Err x) old mid new a b e f = tt

pub wrote : {X : Type 0} (q : Result (Unit {0}) X) (old new : Written) (t : Token) → Writes q old new t → WritesAll q old new (t ∷ [])
wrote (Ok u) old new t w = (w.ok, w.room.0)
wrote (Err x) old new t w = tt

pub same : {T X : Type 0} (q : Result T X) (old new : Written) (a b : List Token) → a ≡ b → WritesAll q old new a → WritesAll q old new b
same q old new a b e w = subst (WritesAll q old new) e w

pub none_at : (es : List Entry) (n : ℕ) → slice_get es n ≡ None → member_at es n ≡ []
none_at es n e = ap (λ o. member_of (name_before es n) o (name_at es (n + 1))) e
