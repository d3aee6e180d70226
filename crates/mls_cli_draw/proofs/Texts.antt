-- What is put behind a list, piece by piece.
use Rattle.std.proofs.Common.{◌≡◌, ◌∙◌, ◌++◌, List, Result, Ok, Err, OnOk, ap, append_assoc}

pub behind : {A T X : Type 0} (q : Result T X) (old mid new a b : List A) → mid ≡ old ++ a → OnOk q (new ≡ mid ++ b) → OnOk q (new ≡ old ++ (a ++ b))
behind (Ok u) old mid new a b e f = f ∙ ap (λ xs. xs ++ b) e ∙ append_assoc old a b
behind (Err x) old mid new a b e f = tt
