-- What is read of items that have no items in them, row by row.
use Rattle.std.proofs.Common.{◌≡◌, ℕ, List, ◌∷◌, refl, arith}
use Rattle.fv_text.specs.declared.kind.Kind.{Kind}
use Rattle.fv_text.specs.declared.kind.Kind.TheVariants as k
use Rattle.fv_text.specs.declared.keyword.Keyword.TheVariants as w
use Rattle.fv_text.specs.declared.symbol.Symbol.TheVariants as s
use Rattle.vl_parse_grammar.specs.Machine.{then}
use Rattle.vl_parse_grammar.specs.Grammar.{read, sign, name, expr, target, shape, declared_name, declared_names, names}
use Rattle.vl_parse_grammar.specs.Grammar.{parameters, assignments, stmt, initial_stmt, item, event, overrides}
use Rattle.vl_parse_cursor.specs.Parts.{row_read}

pub item_wire : (n : ℕ) (ts : List Kind)
    → read item n (k.Keyword w.Wire ∷ ts) ≡ then (read shape n ts)
    (λ r. then (read declared_name n r) (λ q. read declared_names n q))
item_wire n ts = row_read item n (k.Keyword w.Wire) ts 0 _ refl (omega arith)

pub item_reg : (n : ℕ) (ts : List Kind) → read item n (k.Keyword w.Reg ∷ ts) ≡
    then (read shape n ts) (λ r. then (read declared_name n r) (λ q. read declared_names n q))
item_reg n ts = row_read item n (k.Keyword w.Reg) ts 0 _ refl (omega arith)

pub item_integer : (n : ℕ) (ts : List Kind)
    → read item n (k.Keyword w.Integer ∷ ts) ≡ then (read declared_name n ts) (λ r. read declared_names n r)
item_integer n ts = row_read item n (k.Keyword w.Integer) ts 0 _ refl (omega arith)

pub item_genvar : (n : ℕ) (ts : List Kind)
    → read item n (k.Keyword w.Genvar ∷ ts) ≡ then (read name n ts) (λ r. read names n r)
item_genvar n ts = row_read item n (k.Keyword w.Genvar) ts 0 _ refl (omega arith)

pub item_parameter : (n : ℕ) (ts : List Kind)
    → read item n (k.Keyword w.Parameter ∷ ts) ≡
    then (read shape n ts) (λ r. then (read name n r)
    (λ q. then (read (sign s.Equal) n q) (λ u. then (read expr n u) (λ v. read parameters n v))))
item_parameter n ts = row_read item n (k.Keyword w.Parameter) ts 0 _ refl (omega arith)

pub item_localparam : (n : ℕ) (ts : List Kind)
    → read item n (k.Keyword w.Localparam ∷ ts) ≡
    then (read shape n ts) (λ r. then (read name n r)
    (λ q. then (read (sign s.Equal) n q) (λ u. then (read expr n u) (λ v. read parameters n v))))
item_localparam n ts = row_read item n (k.Keyword w.Localparam) ts 0 _ refl (omega arith)

pub item_assign : (n : ℕ) (ts : List Kind)
    → read item n (k.Keyword w.Assign ∷ ts) ≡
    then (read target n ts) (λ r. then (read (sign s.Equal) n r)
    (λ q. then (read expr n q) (λ u. read assignments n u)))
item_assign n ts = row_read item n (k.Keyword w.Assign) ts 0 _ refl (omega arith)

pub item_always : (n : ℕ) (ts : List Kind)
    → read item n (k.Keyword w.Always ∷ ts) ≡
    then (read (sign s.At) n ts) (λ r. then (read event n r) (λ q. read stmt n q))
item_always n ts = row_read item n (k.Keyword w.Always) ts 0 _ refl (omega arith)

pub item_initial : (n : ℕ) (ts : List Kind) → read item n (k.Keyword w.Initial ∷ ts) ≡ read initial_stmt n ts
item_initial n ts = row_read item n (k.Keyword w.Initial) ts 0 _ refl (omega arith)

pub item_name : (text : List ℕ) (n : ℕ) (ts : List Kind) → read item n (k.Name text ∷ ts) ≡ read overrides n ts
item_name text n ts = row_read item n (k.Name text) ts 0 _ refl (omega arith)
