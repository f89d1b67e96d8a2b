-- What is read of modules, row by row.
use Rattle.std.proofs.Common.{◌≡◌, ℕ, List, [], ◌∷◌, length, refl, arith}
use Rattle.std.specs.Prelude.{Ok, Err}
use Rattle.fv_text.specs.declared.kind.Kind.{Kind}
use Rattle.fv_text.specs.declared.kind.Kind.TheVariants as k
use Rattle.fv_text.specs.declared.keyword.Keyword.TheVariants as w
use Rattle.vl_parse_grammar.specs.Machine as machine
use Rattle.vl_parse_grammar.specs.Machine.{bad, syntax, then}
use Rattle.vl_parse_grammar.specs.Grammar.{endmodule, expand, read, name, items, modules, module_head}
use Rattle.vl_parse_cursor.specs.Next.{IsOther}
use Rattle.vl_parse_cursor.specs.Parts.{row_read, row_bad}

pub module_row : (n : ℕ) (ts : List Kind)
    → read modules n (k.Keyword w.Module ∷ ts) ≡
    then (read name n ts) (λ r. then (read module_head n r)
    (λ q. then (read (items endmodule) n q) (λ u. read modules n u)))
module_row n ts = row_read modules n (k.Keyword w.Module) ts 0 _ refl (omega arith)

pub modules_end : (n : ℕ) → read modules n [] ≡ Ok []
unfolding read machine.reads
modules_end n = refl

modules_bad : (t : Kind) → (t ≡ k.Keyword w.Module → ⊥) → expand modules t ≡ bad
modules_bad (k.Keyword w.Module) h = absurd (h refl)
modules_bad t h = refl

pub modules_wrong : (n : ℕ) (ts : List Kind) → (ts ≡ [] → ⊥) → IsOther (k.Keyword w.Module) ts
    → read modules n ts ≡ Err (syntax (length ts))
modules_wrong n [] h i = absurd (h refl)
modules_wrong n (t ∷ ts) h i = row_bad modules n t ts (modules_bad t i)

pub ruleset of_modules = (module_row, modules_end, modules_wrong)
