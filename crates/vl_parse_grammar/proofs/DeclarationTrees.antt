-- What the machine reads as targets, attributes, ranges, declared names, parameters and ports is spelled by well
-- formed trees.
use Rattle.std.proofs.Common.{◌≡◌, ℕ, zero, suc, true, false, List, [], ◌∷◌, ◌++◌, Option, Some, None, refl, sym, ap}
use Rattle.std.proofs.Common.{◌∙◌, subst, arith}
use Rattle.std.specs.Prelude.{All}
use Rattle.std.proofs.lemmas.List.Elements.{All-cons, All-nil}
use Rattle.fv_text.specs.declared.keyword.Keyword.TheVariants as word
use Rattle.fv_text.specs.declared.kind.Kind.{Kind}
use Rattle.fv_text.specs.declared.kind.Kind.TheVariants as k
use Rattle.fv_text.specs.declared.symbol.Symbol.TheVariants as s
use Rattle.vl_tree.specs.declared.attribute.Attribute.{Attribute}
use Rattle.vl_tree.specs.declared.attribute.AttributeInstance.{AttributeInstance}
use Rattle.vl_tree.specs.declared.declaration.Range.{Range}
use Rattle.vl_tree.specs.declared.declaration.Shape.{Shape}
use Rattle.vl_tree.specs.declared.declaration.DeclaredName.{DeclaredName}
use Rattle.vl_tree.specs.declared.declaration.Parameter.{Parameter}
use Rattle.vl_tree.specs.declared.declaration.HeaderParameter.{HeaderParameter}
use Rattle.vl_tree.specs.ExprSpelling as expr
use Rattle.vl_tree.specs.ExprSpelling.{spell_selects, spell_value}
use Rattle.vl_tree.specs.ExprWellFormed.{IsName}
use Rattle.vl_tree.specs.Lval.{Lval, Lvals, named, joined, no_lvals, more_lvals}
use Rattle.vl_tree.specs.LvalSpelling as lval
use Rattle.vl_tree.specs.LvalWellFormed as target_well
use Rattle.vl_tree.specs.Phrase.{Phrase, a_name, with_commas, between_commas}
use Rattle.vl_tree.specs.DeclarationSpelling.{spell_attribute, spell_instance, spell_optional_range, spell_shape}
use Rattle.vl_tree.specs.DeclarationSpelling.{spell_declared_name, spell_parameter, spell_header_parameter}
use Rattle.vl_tree.specs.DeclarationWellFormed.{AreSome, IsAttribute, IsInstance, IsOptionalRange, IsShape}
use Rattle.vl_tree.specs.DeclarationWellFormed.{IsDeclaredName, IsParameter, IsHeaderParameter, AreHeaderParameters}
use Rattle.vl_parse_grammar.specs.Grammar as g
use Rattle.vl_parse_grammar.specs.Grammar.{
  Rule,
  Moves,
  selects,
  value,
  target,
  targets,
  attributes,
  name,
  sign,
  range,
  shape,
  declared_name,
  declared_names,
  names,
  parameters,
  parameter,
  optional_parameter,
  header_parameters,
  more_header_parameters,
  port,
  full_port,
  first_port,
  more_ports,
  net,
  many,
}
use Rattle.vl_parse_grammar.specs.Machine.{Row, take, pop, bad, symbols}
use Rattle.vl_parse_grammar.proofs.Named.{Named, Derives, plain}
use Rattle.vl_parse_grammar.proofs.Onto.{onto}
use Rattle.vl_parse_grammar.proofs.Runs as runs
use Rattle.vl_parse_grammar.proofs.Steps.{apart}
use Rattle.vl_parse_grammar.proofs.Spine.{nowhere}
use Rattle.vl_parse_grammar.proofs.TokenTrees.{Moved, sign_tree, name_tree, parameter_word_tree}
use Rattle.vl_parse_grammar.proofs.ExprTrees.{expr_tree, selects_tree, value_tree}

-- rules one behind the other are read in turn
abbrev pub Turn : ℕ → List Rule → List Named → List Named → Type 0
Turn d xs ts rest = runs.InTurn (λ y us vs. Derives d y us vs) xs ts rest

pub last_of : (d : ℕ) (x : Rule) (ts rest : List Named) → Turn d (x ∷ []) ts rest → Derives d x ts rest
last_of d x ts rest (m, h, j) = subst (λ r. Derives d x ts r) j h

-- the list's element, and then the list
pub record Split (d : ℕ) (x : Rule) (t : Named) (ts rest : List Named) (m : Moves) : Type 0 where
  pub middle : List Named
  pub first : Moved d t ts middle m
  pub others : Derives d x middle rest

pub record InRow (d : ℕ) (x : Rule) (row : Row Rule) (us rest : List Named) : Type 0 where
  pub middle : List Named
  pub first : Turn d (symbols row) us middle
  pub others : Derives d x middle rest

pub in_row : (d : ℕ) (x : Rule) (row : Row Rule) (us rest : List Named)
    → Turn d (symbols (row ++ (x, 0) ∷ [])) us rest → InRow d x row us rest
in_row d x [] us rest (m, h, j) = record { middle = us; first = refl; others = subst (λ r. Derives d x us r) j h }
in_row d x (y ∷ row) us rest (m, h, j) =
    (let f = in_row d x row m rest j in record { middle = f.middle; first = (m, h, f.first); others = f.others })

pub many_split : (d : ℕ) (x : Rule) (t : Named) (ts rest : List Named) (m : Moves) → Moved d t ts rest (many x m)
    → Split d x t ts rest m
many_split d x t ts rest (take opened row) h =
    (let f = in_row d x row ts rest h in record { middle = f.middle; first = f.first; others = f.others })
many_split d x t ts rest pop h = absurd h
many_split d x t ts rest bad h = absurd h

-- a list's tail, one element at a time
module _ {A : Type 0} (one : A → Phrase) (Good : A → Type 0) (tail : Rule) (close : Kind) where
  pub data Tail (d : ℕ) (ts rest : List Named) : Type 0 where
    closes : plain ts ≡ close ∷ plain rest → Tail d ts rest
    goes_on : (x : A) (middle : List Named) → plain ts ≡ k.Symbol s.Comma ∷ onto (one x) (plain middle) → Good x
        → Derives d tail middle rest → Tail d ts rest

  pub record Trees (ts ks : List Kind) : Type 0 where
    pub trees : List A
    pub same : ts ≡ onto (with_commas one trees) (close ∷ ks)
    pub formed : All Good trees

  pub tail_tree : ((d : ℕ) (ts rest : List Named) → Derives (suc d) tail ts rest → Tail d ts rest)
      → (d : ℕ) (ts rest : List Named)
      → Derives d tail ts rest → Trees (plain ts) (plain rest)
  tail_tree view zero ts rest h = absurd h
  tail_tree view (suc d) ts rest h = by_view (view d ts rest h) (λ m f. tail_tree view d m rest f)
    where
      by_view : Tail d ts rest → ((m : List Named) → Derives d tail m rest → Trees (plain m) (plain rest))
          → Trees (plain ts) (plain rest)
      by_view (closes e) next = record { trees = []; same = e; formed = All-nil Good }
      by_view (goes_on x m e w f) next =
          let r = next m f in
          record {
            trees = x ∷ r.trees;
            same = e ∙ ap (λ u. k.Symbol s.Comma ∷ onto (one x) u) r.same;
            formed = All-cons Good x r.trees w r.formed;
          }

pub record FoundTarget (ts ks : List Kind) : Type 0 where
  pub tree : Lval
  pub same : ts ≡ onto (lval.spell tree) ks
  pub formed : target_well.IsWellFormed tree

pub record FoundTargets (ts ks : List Kind) : Type 0 where
  pub trees : Lvals
  pub same : ts ≡ onto (lval.spell_more trees) (k.Symbol s.CloseBrace ∷ ks)
  pub formed : target_well.AreWellFormed trees

abbrev TargetAt : ℕ → Type 0
TargetAt d = (ts rest : List Named) → Derives d target ts rest → FoundTarget (plain ts) (plain rest)

abbrev TargetsAt : ℕ → Type 0
TargetsAt d = (ts rest : List Named) → Derives d targets ts rest → FoundTargets (plain ts) (plain rest)

target_by : (d : ℕ) → TargetAt d → TargetsAt d → TargetAt (suc d)
target_by d one all ((k.Name text, w) ∷ ts) rest (m, h, j) =
    let ss = selects_tree d ts m h in
    record {
      tree = named nowhere text ss.trees;
      same = ap (λ u. k.Name text ∷ u) (ss.same ∙ ap (λ r. onto (spell_selects ss.trees) (plain r)) j);
      formed = (w, ss.formed);
    }
target_by d one all ((k.Symbol s.OpenBrace, w) ∷ ts) rest (m, h, (m2, i, j)) =
    let first = one ts m h in
    let others = all m m2 i in
    record {
      tree = joined nowhere (more_lvals first.tree others.trees);
      same = ap (λ u. k.Symbol s.OpenBrace ∷ u) (first.same ∙ ap (onto (lval.spell first.tree))
          (others.same ∙ ap (λ r. onto (lval.spell_more others.trees) (k.Symbol s.CloseBrace ∷ plain r)) j));
      formed = (tt, (first.formed, others.formed));
    }
target_by d one all [] rest h = apart h.0
target_by d one all ((k.Symbol y, w) ∷ ts) rest h = absurd h
target_by d one all (t ∷ ts) rest h = absurd h

targets_by : (d : ℕ) → TargetAt d → TargetsAt d → TargetsAt (suc d)
targets_by d one all ((k.Symbol s.CloseBrace, w) ∷ ts) rest h =
    record { trees = no_lvals; same = ap (λ r. k.Symbol s.CloseBrace ∷ plain r) h; formed = tt }
targets_by d one all ((k.Symbol s.Comma, w) ∷ ts) rest (m, h, (m2, i, j)) =
    let first = one ts m h in
    let others = all m m2 i in
    record {
      trees = more_lvals first.tree others.trees;
      same = ap (λ u. k.Symbol s.Comma ∷ u) (first.same ∙ ap (onto (lval.spell first.tree))
          (others.same ∙ ap (λ r. onto (lval.spell_more others.trees) (k.Symbol s.CloseBrace ∷ plain r)) j));
      formed = (first.formed, others.formed);
    }
targets_by d one all [] rest h = apart h.0
targets_by d one all ((k.Symbol y, w) ∷ ts) rest h = absurd h
targets_by d one all (t ∷ ts) rest h = absurd h

mutual
  pub target_tree : (d : ℕ) → TargetAt d
  target_tree zero ts rest h = absurd h
  target_tree (suc d) ts rest h = target_by d (target_tree d) (targets_tree d) ts rest h

  pub targets_tree : (d : ℕ) → TargetsAt d
  targets_tree zero ts rest h = absurd h
  targets_tree (suc d) ts rest h = targets_by d (target_tree d) (targets_tree d) ts rest h

-- attributes
attribute_tail : (d : ℕ) (ts rest : List Named) → Derives (suc d) attributes ts rest
    → Tail spell_attribute IsAttribute attributes (k.Symbol s.CloseAttribute) d ts rest
attribute_tail d ((k.Symbol s.Comma, w) ∷ ts) rest (m, h, (m2, i, (m3, j, l))) =
    let x = name_tree d ts m h in
    let v = value_tree d m m2 i in
    goes_on (record { pos = nowhere; name = x.text; value = v.tree }) m2
    (ap (λ u. k.Symbol s.Comma ∷ u) (x.same ∙ ap (λ u. k.Name x.text ∷ u) v.same)) (x.fine, v.formed)
    (subst (λ r. Derives d attributes m2 r) l j)
attribute_tail d ((k.Symbol s.CloseAttribute, w) ∷ ts) rest h = closes (ap (λ r. k.Symbol s.CloseAttribute ∷ plain r) h)
attribute_tail d [] rest h = apart h.0
attribute_tail d ((k.Symbol y, w) ∷ ts) rest h = absurd h
attribute_tail d (t ∷ ts) rest h = absurd h

-- an instance of attributes behind its first token, and the rule that is behind it
pub record Attributed (d : ℕ) (x : Rule) (ts rest : List Named) : Type 0 where
  pub instance : AttributeInstance
  pub middle : List Named
  pub same : k.Symbol s.OpenAttribute ∷ plain ts ≡ onto (spell_instance instance) (plain middle)
  pub formed : IsInstance instance
  pub others : Derives d x middle rest

pub attributed_tree : (d : ℕ) (x : Rule) (ts rest : List Named) → Turn d (name ∷ value ∷ attributes ∷ x ∷ []) ts rest
    → Attributed d x ts rest
attributed_tree d x ts rest (m, h, (m2, i, (m3, j, (m4, l, e)))) =
    let first = name_tree d ts m h in
    let v = value_tree d m m2 i in
    let one : Attribute = record { pos = nowhere; name = first.text; value = v.tree } in
    let others = tail_tree spell_attribute IsAttribute attributes
    (k.Symbol s.CloseAttribute) attribute_tail d m2 m3 j in
    record {
      instance = record { pos = nowhere; attributes = one ∷ others.trees };
      middle = m3;
      same = ap (λ u. k.Symbol s.OpenAttribute ∷ u)
          (first.same ∙ ap (λ u. k.Name first.text ∷ u) (v.same ∙ ap (onto (spell_value v.tree)) others.same));
      formed = (omega arith, All-cons IsAttribute one others.trees (first.fine, v.formed) others.formed);
      others = subst (λ r. Derives d x m3 r) e l;
    }

-- ranges and shapes
pub record FoundRange (ts ks : List Kind) : Type 0 where
  pub tree : Option Range
  pub same : ts ≡ onto (spell_optional_range tree) ks
  pub formed : IsOptionalRange tree

no_range : (ts rest : List Named) → rest ≡ ts → FoundRange (plain ts) (plain rest)
no_range ts rest h = record { tree = None; same = ap plain (sym h); formed = tt }

in_range : (d : ℕ) (ts rest : List Named) → Turn d (g.expr ∷ sign s.Colon ∷ g.expr ∷ sign s.CloseBracket ∷ []) ts rest
    → FoundRange (k.Symbol s.OpenBracket ∷ plain ts) (plain rest)
in_range d ts rest (m, h, (m2, i, (m3, j, (m4, l, e)))) =
    let x = expr_tree d ts m h in
    let y = expr_tree d m2 m3 j in
    record {
      tree = Some (record { pos = nowhere; left = x.tree; right = y.tree });
      same = ap (λ u. k.Symbol s.OpenBracket ∷ u) (x.same ∙ ap (onto (expr.spell x.tree)) (sign_tree d s.Colon m m2 i
          ∙ ap (λ u. k.Symbol s.Colon ∷ u) (y.same ∙ ap (onto (expr.spell y.tree)) (sign_tree d s.CloseBracket m3 m4 l
          ∙ ap (λ r. k.Symbol s.CloseBracket ∷ plain r) e))));
      formed = (x.formed, y.formed);
    }

pub range_tree : (d : ℕ) (ts rest : List Named) → Derives d range ts rest → FoundRange (plain ts) (plain rest)
range_tree zero ts rest h = absurd h
range_tree (suc d) ((k.Symbol s.OpenBracket, w) ∷ ts) rest h = in_range d ts rest h
range_tree (suc d) [] rest h = no_range [] rest h.1
range_tree (suc d) ((k.Symbol y, w) ∷ ts) rest h = no_range ((k.Symbol y, w) ∷ ts) rest h
range_tree (suc d) (t ∷ ts) rest h = no_range (t ∷ ts) rest h

pub record FoundShape (ts ks : List Kind) : Type 0 where
  pub tree : Shape
  pub same : ts ≡ onto (spell_shape tree) ks
  pub formed : IsShape tree

unsigned : (ts ks : List Kind) → FoundRange ts ks → FoundShape ts ks
unsigned ts ks r = record { tree = record { signed = false; range = r.tree }; same = r.same; formed = r.formed }

pub shape_tree : (d : ℕ) (ts rest : List Named) → Derives d shape ts rest → FoundShape (plain ts) (plain rest)
shape_tree zero ts rest h = absurd h
shape_tree (suc d) ((k.Keyword word.Signed, w) ∷ ts) rest (m, h, j) =
    let r = range_tree d ts m h in
    record {
      tree = record { signed = true; range = r.tree };
      same = ap (λ u. k.Keyword word.Signed ∷ u) (r.same ∙ ap (λ u. onto (spell_optional_range r.tree) (plain u)) j);
      formed = r.formed;
    }
shape_tree (suc d) ((k.Keyword y, w) ∷ ts) rest h =
    unsigned (plain ((k.Keyword y, w) ∷ ts)) (plain rest) (no_range ((k.Keyword y, w) ∷ ts) rest h)
shape_tree (suc d) ts rest h = unsigned (plain ts) (plain rest) (range_tree (suc d) ts rest h)

-- declared names
pub record FoundName (ts ks : List Kind) : Type 0 where
  pub tree : DeclaredName
  pub same : ts ≡ onto (spell_declared_name tree) ks
  pub formed : IsDeclaredName tree

pub declared_name_tree : (d : ℕ) (ts rest : List Named) → Derives d declared_name ts rest
    → FoundName (plain ts) (plain rest)
declared_name_tree zero ts rest h = absurd h
declared_name_tree (suc d) ((k.Name text, w) ∷ ts) rest (m, h, (m2, i, j)) =
    let r = range_tree d ts m h in
    let v = value_tree d m m2 i in
    record {
      tree = record { pos = nowhere; name = text; words = r.tree; value = v.tree };
      same = ap (λ u. k.Name text ∷ u)
          (r.same ∙ ap (onto (spell_optional_range r.tree)) (v.same ∙ ap (λ u. onto (spell_value v.tree) (plain u)) j));
      formed = (w, r.formed, v.formed);
    }
declared_name_tree (suc d) [] rest h = apart h.0
declared_name_tree (suc d) (t ∷ ts) rest h = absurd h

declared_tail : (d : ℕ) (ts rest : List Named) → Derives (suc d) declared_names ts rest
    → Tail spell_declared_name IsDeclaredName declared_names (k.Symbol s.Semicolon) d ts rest
declared_tail d ((k.Symbol s.Comma, w) ∷ ts) rest (m, h, (m2, i, j)) =
    let x = declared_name_tree d ts m h in
    goes_on x.tree m (ap (λ u. k.Symbol s.Comma ∷ u) x.same) x.formed (subst (λ r. Derives d declared_names m r) j i)
declared_tail d ((k.Symbol s.Semicolon, w) ∷ ts) rest h = closes (ap (λ r. k.Symbol s.Semicolon ∷ plain r) h)
declared_tail d [] rest h = apart h.0
declared_tail d ((k.Symbol y, w) ∷ ts) rest h = absurd h
declared_tail d (t ∷ ts) rest h = absurd h

-- one or more elements, and what closes their list
pub record FoundList {A : Type 0} (one : A → Phrase) (Good : A → Type 0) (close : Kind)
    (ts ks : List Kind) : Type 0 where
  pub trees : List A
  pub same : ts ≡ onto (between_commas one trees) (close ∷ ks)
  pub formed : AreSome Good trees

pub list_of : {A : Type 0} (one : A → Phrase) (Good : A → Type 0) (tail : Rule) (close : Kind) (ts us ks : List Kind)
    (x : A)
    → ts ≡ onto (one x) us → Good x → Trees one Good tail close us ks → FoundList one Good close ts ks
list_of one Good tail close ts us ks x e w r = record {
  trees = x ∷ r.trees;
  same = e ∙ ap (onto (one x)) r.same;
  formed = (omega arith, All-cons Good x r.trees w r.formed);
}

pub declared_names_tree : (d : ℕ) (ts rest : List Named) → Turn d (declared_name ∷ declared_names ∷ []) ts rest
    → FoundList spell_declared_name IsDeclaredName (k.Symbol s.Semicolon) (plain ts) (plain rest)
declared_names_tree d ts rest (m, h, (m2, i, j)) =
    let x = declared_name_tree d ts m h in
    let others = tail_tree spell_declared_name IsDeclaredName declared_names
    (k.Symbol s.Semicolon) declared_tail d m m2 i in
    subst (λ r. FoundList spell_declared_name IsDeclaredName (k.Symbol s.Semicolon) (plain ts) (plain r)) j
    (list_of spell_declared_name IsDeclaredName declared_names (k.Symbol s.Semicolon) (plain ts) (plain m)
    (plain m2) x.tree x.same x.formed others)

names_tail : (d : ℕ) (ts rest : List Named) → Derives (suc d) names ts rest
    → Tail a_name IsName names (k.Symbol s.Semicolon) d ts rest
names_tail d ((k.Symbol s.Comma, w) ∷ ts) rest (m, h, (m2, i, j)) =
    let x = name_tree d ts m h in
    goes_on x.text m (ap (λ u. k.Symbol s.Comma ∷ u) x.same) x.fine (subst (λ r. Derives d names m r) j i)
names_tail d ((k.Symbol s.Semicolon, w) ∷ ts) rest h = closes (ap (λ r. k.Symbol s.Semicolon ∷ plain r) h)
names_tail d [] rest h = apart h.0
names_tail d ((k.Symbol y, w) ∷ ts) rest h = absurd h
names_tail d (t ∷ ts) rest h = absurd h

pub names_tree : (d : ℕ) (ts rest : List Named) → Turn d (name ∷ names ∷ []) ts rest
    → FoundList a_name IsName (k.Symbol s.Semicolon) (plain ts) (plain rest)
names_tree d ts rest (m, h, (m2, i, j)) =
    let x = name_tree d ts m h in
    let others = tail_tree a_name IsName names (k.Symbol s.Semicolon) names_tail d m m2 i in
    subst (λ r. FoundList a_name IsName (k.Symbol s.Semicolon) (plain ts) (plain r)) j
    (list_of a_name IsName names (k.Symbol s.Semicolon) (plain ts) (plain m) (plain m2) x.text x.same x.fine others)

-- a parameter, and what is behind it
pub record FoundParameter (d : ℕ) (xs : List Rule) (ts rest : List Named) : Type 0 where
  pub tree : Parameter
  pub middle : List Named
  pub same : plain ts ≡ onto (spell_parameter tree) (plain middle)
  pub formed : IsParameter tree
  pub others : Turn d xs middle rest

pub parameter_tree : (d : ℕ) (xs : List Rule) (ts rest : List Named) → Turn d (parameter ++ xs) ts rest
    → FoundParameter d xs ts rest
parameter_tree d xs ts rest (m, h, (m2, i, (m3, j, (m4, l, others)))) =
    let x = shape_tree d ts m h in
    let y = name_tree d m m2 i in
    let v = expr_tree d m3 m4 l in
    record {
      tree = record { pos = nowhere; shape = x.tree; name = y.text; value = v.tree };
      middle = m4;
      same = x.same ∙ ap (onto (spell_shape x.tree)) (y.same ∙ ap (λ u. k.Name y.text ∷ u) (sign_tree d s.Equal m2 m3 j
          ∙ ap (λ u. k.Symbol s.Equal ∷ u) v.same));
      formed = (x.formed, y.fine, v.formed);
      others = others;
    }

parameters_tail : (d : ℕ) (ts rest : List Named) → Derives (suc d) parameters ts rest
    → Tail spell_parameter IsParameter parameters (k.Symbol s.Semicolon) d ts rest
parameters_tail d ((k.Symbol s.Comma, w) ∷ ts) rest h =
    let x = parameter_tree d (parameters ∷ []) ts rest h in
    goes_on x.tree x.middle (ap (λ u. k.Symbol s.Comma ∷ u) x.same) x.formed
    (last_of d parameters x.middle rest x.others)
parameters_tail d ((k.Symbol s.Semicolon, w) ∷ ts) rest h = closes (ap (λ r. k.Symbol s.Semicolon ∷ plain r) h)
parameters_tail d [] rest h = apart h.0
parameters_tail d ((k.Symbol y, w) ∷ ts) rest h = absurd h
parameters_tail d (t ∷ ts) rest h = absurd h

pub parameters_tree : (d : ℕ) (ts rest : List Named) → Turn d (parameter ++ parameters ∷ []) ts rest
    → FoundList spell_parameter IsParameter (k.Symbol s.Semicolon) (plain ts) (plain rest)
parameters_tree d ts rest h =
    let x = parameter_tree d (parameters ∷ []) ts rest h in
    list_of spell_parameter IsParameter parameters (k.Symbol s.Semicolon) (plain ts) (plain x.middle)
    (plain rest) x.tree x.same x.formed
    (tail_tree spell_parameter IsParameter parameters (k.Symbol s.Semicolon) parameters_tail d x.middle rest
    (last_of d parameters x.middle rest x.others))

-- parameters in the head of a module
header_tree : (d : ℕ) (ts rest : List Named)
    → Turn d (optional_parameter ∷ parameter ++ more_header_parameters ∷ []) ts rest
    → Tail spell_header_parameter IsHeaderParameter more_header_parameters (k.Symbol s.CloseParen) d
    ((k.Symbol s.Comma, refl) ∷ ts) rest
header_tree d ts rest (m, h, others) = by_word d ts h
  where
    without : (ts : List Named) → m ≡ ts
        → Tail spell_header_parameter IsHeaderParameter more_header_parameters (k.Symbol s.CloseParen) d
        ((k.Symbol s.Comma, refl) ∷ ts) rest
    without ts e =
        let x = parameter_tree d (more_header_parameters ∷ []) m rest others in
        goes_on (record { keyword = false; parameter = x.tree }) x.middle
        (ap (λ u. k.Symbol s.Comma ∷ u) (ap plain (sym e) ∙ x.same)) x.formed
        (last_of d more_header_parameters x.middle rest x.others)

    by_word : (b : ℕ) (ts : List Named) → Derives b optional_parameter ts m
        → Tail spell_header_parameter IsHeaderParameter more_header_parameters (k.Symbol s.CloseParen) d
        ((k.Symbol s.Comma, refl) ∷ ts) rest
    by_word zero ts h = absurd h
    by_word (suc b) ((k.Keyword word.Parameter, w) ∷ ts) h =
        let x = parameter_tree d (more_header_parameters ∷ []) m rest others in
        goes_on (record { keyword = true; parameter = x.tree }) x.middle
        (ap (λ u. k.Symbol s.Comma ∷ k.Keyword word.Parameter ∷ u) (ap plain h ∙ x.same)) x.formed
        (last_of d more_header_parameters x.middle rest x.others)
    by_word (suc b) [] h = without [] h.1
    by_word (suc b) ((k.Keyword y, w) ∷ ts) h = without ((k.Keyword y, w) ∷ ts) h
    by_word (suc b) (t ∷ ts) h = without (t ∷ ts) h

header_tail : (d : ℕ) (ts rest : List Named) → Derives (suc d) more_header_parameters ts rest
    → Tail spell_header_parameter IsHeaderParameter more_header_parameters (k.Symbol s.CloseParen) d ts rest
header_tail d ((k.Symbol s.Comma, w) ∷ ts) rest h = by_tail (header_tree d ts rest h)
  where
    by_tail : Tail spell_header_parameter IsHeaderParameter more_header_parameters (k.Symbol s.CloseParen) d
        ((k.Symbol s.Comma, refl) ∷ ts) rest
        → Tail spell_header_parameter IsHeaderParameter more_header_parameters (k.Symbol s.CloseParen) d
        ((k.Symbol s.Comma, w) ∷ ts) rest
    by_tail (closes e) = closes e
    by_tail (goes_on x m e v f) = goes_on x m e v f
header_tail d ((k.Symbol s.CloseParen, w) ∷ ts) rest h = closes (ap (λ r. k.Symbol s.CloseParen ∷ plain r) h)
header_tail d [] rest h = apart h.0
header_tail d ((k.Symbol y, w) ∷ ts) rest h = absurd h
header_tail d (t ∷ ts) rest h = absurd h

pub record FoundHeader (ts ks : List Kind) : Type 0 where
  pub trees : List HeaderParameter
  pub same : ts ≡ k.Symbol s.OpenParen ∷ onto (between_commas spell_header_parameter trees) (k.Symbol s.CloseParen ∷ ks)
  pub formed : AreHeaderParameters trees

pub header_parameters_tree : (d : ℕ) (ts rest : List Named) → Derives d header_parameters ts rest
    → FoundHeader (plain ts) (plain rest)
header_parameters_tree zero ts rest h = absurd h
header_parameters_tree (suc d) ((k.Symbol s.OpenParen, w) ∷ ts) rest (m, h, others) =
    let x = parameter_tree d (more_header_parameters ∷ []) m rest others in
    let more = tail_tree spell_header_parameter IsHeaderParameter more_header_parameters
    (k.Symbol s.CloseParen) header_tail d x.middle rest
    (last_of d more_header_parameters x.middle rest x.others) in
    let one : HeaderParameter = record { keyword = true; parameter = x.tree } in
    record {
      trees = one ∷ more.trees;
      same = ap (λ u. k.Symbol s.OpenParen ∷ u) (parameter_word_tree d ts m h
          ∙ ap (λ u. k.Keyword word.Parameter ∷ u) (x.same ∙ ap (onto (spell_parameter x.tree)) more.same));
      formed = (refl, All-cons IsHeaderParameter one more.trees x.formed more.formed);
    }
header_parameters_tree (suc d) [] rest h = apart h.0
header_parameters_tree (suc d) ((k.Symbol y, w) ∷ ts) rest h = absurd h
header_parameters_tree (suc d) (t ∷ ts) rest h = absurd h
