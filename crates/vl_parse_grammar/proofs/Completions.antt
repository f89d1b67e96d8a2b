-- Each word is read as its rule.
use Rattle.std.proofs.Common.{◌≡◌, ℕ, zero, suc, Bool, true, false, List, [], ◌∷◌, ◌++◌, Option, Some, None, refl}
use Rattle.std.proofs.Common.{sym, ap, ◌∙◌}
use Rattle.std.proofs.lemmas.Slice.Eq.{bytes_eq-Decides}
use Rattle.fv_text.specs.Name.{is_name}
use Rattle.fv_text.specs.declared.keyword.Keyword.TheVariants as w
use Rattle.fv_text.specs.declared.kind.Kind.{Kind}
use Rattle.fv_text.specs.declared.kind.Kind.TheVariants as k
use Rattle.fv_text.specs.declared.symbol.Symbol.{Symbol}
use Rattle.fv_text.specs.declared.symbol.Symbol.TheVariants as s
use Rattle.vl_parse_grammar.specs.Grammar.{
  Rule,
  Stand,
  Ending,
  plain,
  first_in_braces,
  endmodule,
  endgenerate,
  end,
  sign,
  this_name,
  operand,
  more,
  selects,
  value,
  target,
  range,
  shape,
  declared_name,
  stmt,
  otherwise,
  label,
  labels,
  behind_default,
  item,
  items,
  generate_block,
  generate_otherwise,
  modules,
  optional_parameter,
  port,
  full_port,
  net,
  ends,
  on_modules,
  take_if,
}
use Rattle.vl_tree.specs.declared.operator.BinaryOperator.{BinaryOperator}
use Rattle.vl_tree.specs.declared.stmt.CaseKind.{CaseKind}
use Rattle.vl_tree.specs.declared.stmt.CaseKind.TheVariants as c
use Rattle.vl_parse_grammar.specs.Machine as machine
use Rattle.vl_parse_grammar.specs.Machine.{free_step, symbols, take, pop, bad}
use Rattle.vl_parse_grammar.specs.Grammar as grammar
use Rattle.vl_parse_grammar.specs.Operators.{binary_of}
use Rattle.vl_parse_grammar.proofs.Named.{Named, on, accepts}
use Rattle.vl_parse_grammar.proofs.Viable as viable
use Rattle.vl_parse_grammar.proofs.Steps.{apart, is_pop, popped, took}
use Rattle.vl_parse_grammar.proofs.Viable.{both}
use Rattle.vl_parse_grammar.proofs.Words.{word, name_word, behind, left_out, follow, follow_expr, sound, ending_word}
use Rattle.vl_parse_grammar.proofs.Words.{a_is_name}

abbrev pub Lets : ℕ → List Named → Type 0
Lets c ts = viable.Lets on ends word follow left_out sound c ts

-- the rule of the highest number is left out
pub left_at : (n : ℕ) (xs : List Rule) (t : Named) (ts : List Named) → Lets (suc n) (t ∷ ts)
    → accepts (left_out n ∷ xs) (t ∷ ts) ≡ accepts xs (t ∷ ts)
left_at n xs t ts h =
    popped on ends (left_out n) xs t ts
    (both (is_pop (on (left_out n) t)) (viable.lets on ends word follow left_out sound n t) h).0

pub out : (n : ℕ) (xs : List Rule) (ts : List Named) → ends (left_out n) ≡ true → Lets (suc n) ts
    → accepts (left_out n ∷ xs) ts ≡ accepts xs ts
out n xs [] e h = ap (λ b. elim b [ true ↦ machine.all_may_end ends xs | false ↦ false ]) e
out n xs (t ∷ ts) e h = left_at n xs t ts h

-- what is left out where no operator is open is left out where some are
-- the same with one rule less
pub lets_below : (n : ℕ) (ts : List Named) → Lets (suc n) ts → Lets n ts
lets_below n [] h = tt
lets_below n (t ∷ ts) h = (both (is_pop (on (left_out n) t)) (viable.lets on ends word follow left_out sound n t) h).1

more_pops : (opened : ℕ) (t : Kind) → is_pop (grammar.on_more plain 0 0 t) ≡ true
    → is_pop (grammar.on_more plain 0 opened t) ≡ true
more_pops opened (k.Symbol x) h = by_operator (binary_of x) h (λ g. by_question x g)
  where
    by_question : (x : Symbol) → is_pop (grammar.on_no_operator plain 0 0 x) ≡ true
        → is_pop (grammar.on_no_operator plain 0 opened x) ≡ true
    by_question s.Question h = h
    by_question x h = refl

    by_operator : (o : Option BinaryOperator) → is_pop (grammar.on_binary plain 0 0 x o) ≡ true
        → (is_pop (grammar.on_no_operator plain 0 0 x) ≡ true → is_pop (grammar.on_no_operator plain 0 opened x) ≡ true)
        → is_pop (grammar.on_binary plain 0 opened x o) ≡ true
    by_operator (Some op) h next = h
    by_operator None h next = next h
more_pops opened t h = refl

-- what is left out where no operator is open is left out where some are
more_out : (opened : ℕ) (xs : List Rule) (ts : List Named) → Lets 2 ts
    → accepts (more plain 0 opened ∷ xs) ts ≡ accepts xs ts
more_out opened xs [] h = refl
more_out opened xs (t ∷ ts) h =
    popped on ends (more plain 0 opened) xs t ts
    (more_pops opened t.0 (both (is_pop (on (more plain 0 0) t))
    (viable.lets on ends word follow left_out sound 1 t) h).0)

never_modules : (t : Kind) → is_pop (on_modules t) ≡ false
never_modules (k.Keyword w.Module) = refl
never_modules (k.Keyword x) = refl
never_modules t = refl

modules_end : (xs : List Rule) (ts : List Named) → Lets 10 ts → accepts (modules ∷ xs) ts ≡ accepts xs ts
modules_end xs [] h = refl
modules_end xs (t ∷ ts) h =
    apart (sym (never_modules t.0) ∙ (both (is_pop (on modules t))
    (viable.lets on ends word follow left_out sound 9 t) h).0)

read_sign : (x : Symbol) (xs : List Rule) (ts : List Named)
    → accepts (sign x ∷ xs) ((k.Symbol x, refl) ∷ ts) ≡ accepts xs ts
read_sign s.OpenParen xs ts = refl
read_sign x xs ts = refl

read_name : (text : List ℕ) (b : Bool) (e : is_name text ≡ b) (xs : List Rule) (ts : List Named) → b ≡ true
    → accepts (this_name text ∷ xs) (name_word text b e ++ ts) ≡ accepts xs ts
read_name text true e xs ts h =
    took on ends (this_name text) xs (k.Name text, e) ts 0 []
    (ap take_if ((bytes_eq-Decides text text).1 refl))
read_name text false e xs ts h = apart h

read_behind : (stand : Stand) (colons opened : ℕ) (xs : List Rule) (ts : List Named) → Lets (follow_expr stand) ts
    → accepts (more stand colons opened ∷ xs) (behind stand colons ++ ts) ≡ accepts xs ts
read_behind plain zero opened xs ts h = more_out opened xs ts h
read_behind first_in_braces zero opened xs ts h = refl
read_behind plain (suc colons) opened xs ts h = read_behind plain colons opened xs ts h
read_behind first_in_braces (suc colons) opened xs ts h = read_behind first_in_braces colons opened xs ts h

read_ending : (ending : Ending) (xs : List Rule) (ts : List Named)
    → accepts (items ending ∷ xs) ((k.Keyword (ending_word ending), refl) ∷ ts) ≡ accepts xs ts
read_ending endmodule xs ts = refl
read_ending endgenerate xs ts = refl
read_ending end xs ts = refl

read_label : (kind : CaseKind) (xs : List Rule) (ts : List Named) → Lets 2 ts
    → accepts (label kind ∷ xs) (word (label kind) ++ ts) ≡ accepts xs ts
read_label c.Case xs ts h = out 0 (more plain 0 0 ∷ xs) ts refl (lets_below 1 ts h) ∙ out 1 xs ts refl h
read_label c.Casez xs ts h = out 0 (more plain 0 0 ∷ xs) ts refl (lets_below 1 ts h) ∙ out 1 xs ts refl h

pub words_read : (x : Rule) (xs : List Rule) (ts : List Named) → sound x ≡ true → Lets (follow x) ts
    → accepts (x ∷ xs) (word x ++ ts) ≡ accepts xs ts
words_read (sign x) xs ts g h = read_sign x xs ts
words_read (this_name text) xs ts g h = read_name text (is_name text) refl xs ts g
words_read (operand stand colons opened) xs ts g h = read_behind stand colons opened xs ts h
words_read (more stand colons opened) xs ts g h = read_behind stand colons opened xs ts h
words_read selects xs ts g h = out 0 xs ts refl h
words_read value xs ts g h = out 3 xs ts refl h
words_read target xs ts g h = out 0 xs ts refl h
words_read range xs ts g h = out 2 xs ts refl h
words_read shape xs ts g h = out 5 xs ts refl h
words_read declared_name xs ts g h = out 2 (value ∷ xs) ts refl (lets_below 3 ts h) ∙ out 3 xs ts refl h
words_read stmt xs ts g h = refl
words_read otherwise xs ts g h = out 7 xs ts refl h
words_read (label kind) xs ts g h = read_label kind xs ts h
words_read (items ending) xs ts g h = read_ending ending xs ts
words_read generate_otherwise xs ts g h = out 8 xs ts refl h
words_read modules xs ts g h = modules_end xs ts h
words_read optional_parameter xs ts g h = out 6 xs ts refl h
words_read port xs ts g h = out 3 xs ts refl h
words_read full_port xs ts g h =
    out 4 (shape ∷ grammar.name ∷ value ∷ xs) ((k.Name (97 ∷ []), a_is_name) ∷ ts) refl refl
    ∙ out 5 (grammar.name ∷ value ∷ xs) ((k.Name (97 ∷ []), a_is_name) ∷ ts) refl refl ∙ out 3 xs ts refl h
words_read net xs ts g h = out 4 xs ts refl h
words_read x xs ts g h = refl
