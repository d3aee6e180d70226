-- The matches of a simple command.
use Rattle.std.proofs.Common.{◌≡◌, List, Result, Ok, Err, true, subst}
use Rattle.std.specs.Prelude.{IfOk}
use Rattle.clap.specs.Words.{App, HasMatchesOf, Text, found_of, is_simple, matches_of, rows_of, subcommand_of, subcommand_rows_of}
use Rattle.clap.specs.declared.parser.matches.ArgMatches.{ArgMatches}

pub matched_rows : {E : Type 0} (r : Result ArgMatches E) (found wanted : App) (words : List Text) → found ≡ wanted → is_simple wanted ≡ true
    → IfOk r (λ (m : ArgMatches). HasMatchesOf found words m) → IfOk r (λ (m : ArgMatches). subcommand_rows_of m ≡ subcommand_of wanted words)
matched_rows (Ok m) found wanted words same simple has = (subst (λ (a : App). HasMatchesOf a words m) same has simple).1
matched_rows (Err e) found wanted words same simple has = tt

pub matched_top : {E : Type 0} (r : Result ArgMatches E) (found wanted : App) (words : List Text) → found ≡ wanted → is_simple wanted ≡ true
    → IfOk r (λ (m : ArgMatches). HasMatchesOf found words m) → IfOk r (λ (m : ArgMatches). rows_of (found_of m) ≡ matches_of wanted words)
matched_top (Ok m) found wanted words same simple has = (subst (λ (a : App). HasMatchesOf a words m) same has simple).0
matched_top (Err e) found wanted words same simple has = tt
