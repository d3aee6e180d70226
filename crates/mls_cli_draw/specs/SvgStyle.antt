-- How the nodes of an SVG picture look, by their classes.
use Rattle.std.specs.Prelude.{ℕ, List, [], ◌∷◌, ◌++◌, codes}

-- texts: smaller ones under nodes, orange ones of unmerged leaves
abbrev pub text_style : List (List ℕ)
text_style =
    codes "text{font:12px DejaVu Sans Mono,Menlo,Consolas,monospace}"
    ∷ codes "text{text-anchor:middle;fill:#334155}"
    ∷ codes ".blank text,.leaf .index{fill:#64748b}"
    ∷ codes ".identity{font-size:11px}"
    ∷ codes ".index,.unmerged{font-size:10px}"
    ∷ codes ".unmerged{fill:#b45309}"
    ∷ []

-- shapes: members' leaves are green, other parents blue, blank nodes dashed and empty, those of the last path have thick
-- edges
abbrev pub shape_style : List (List ℕ)
shape_style =
    codes "path{fill:none;stroke:#cbd5e1;stroke-width:2}"
    ∷ codes ".leaf rect{fill:#dcefe6;stroke:#5f9f83;stroke-width:1.5}"
    ∷ codes ".parent circle{fill:#dbe7f5;stroke:#6b8fc0;stroke-width:1.5}"
    ∷ codes ".blank rect,.blank circle{fill:#fff;stroke:#94a3b8;stroke-dasharray:4 3}"
    ∷ codes ".renewed rect,.renewed circle{stroke-width:4}"
    ∷ []

-- before a white ground
abbrev pub style : List (List ℕ)
style =
    (codes "<style>" ∷ [])
    ++ (text_style
    ++ (shape_style
    ++ (codes "</style>" ∷ []
    ++ codes "<rect x=\"-16\" y=\"-40\" width=\"100%\" height=\"100%\" fill=\"#fff\"/>" ∷ [])))
