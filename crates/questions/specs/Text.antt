-- Quoted text as bytes, for tables of days. Assumes nothing.
use Rattle.std.specs.Prelude.{List, [], ◌∷◌, ◌++◌, ℕ}
use Prim.Native.Char.{code}
use Prim.Native.String.{String, [] as nil, ◌∷◌ as cons}
use Rattle.common.specs.Lists.{flat_map}
use Rattle.line.specs.Layout.{newline}

-- the codes of a text's characters
abbrev pub codes : String → List ℕ
codes nil = []
codes (cons c s) = code c ∷ codes s

-- lines of text, each closed by byte 10
unfoldable pub text : List String → List ℕ
text = flat_map (λ l. codes l ++ (newline ∷ []))
