-- Where a run stops for a construct too many, 257 constructs of a text are open for the first time.
use Rattle.std.proofs.Common.{◌≡◌, ℕ, suc, ◌+◌, ◌≤◌, List, [], ◌∷◌, ◌++◌, length, Option, Some, None, refl, sym, ap}
use Rattle.std.proofs.Common.{◌∙◌, subst, arith}
use Rattle.std.specs.Prelude.{Ok, Err}
use Rattle.std.proofs.lemmas.List.{length-append}
use Rattle.fv_text.specs.declared.kind.Kind.{Kind}
use Rattle.fv_text.specs.declared.token.Token.{Token}
use Rattle.vl_tree.specs.declared.source.Source.{Source}
use Rattle.vl_tree.specs.ItemSpelling.{spell_source}
use Rattle.vl_tree.specs.Phrase.{kinds, kinds_of}
use Rattle.vl_tree.specs.WellFormed.{IsSource}
use Rattle.vl_parse_grammar.specs.Machine as machine
use Rattle.vl_parse_grammar.specs.Machine.{Row, Fault, syntax, deep, Stepped, stuck, emptied, over, goes, step}
use Rattle.vl_parse_grammar.specs.Grammar as grammar
use Rattle.vl_parse_grammar.specs.Grammar.{Rule, expand, ends, start}
use Rattle.vl_parse_grammar.specs.Depth.{too_deep_at, unless_too_deep, IsTooDeep}
use Rattle.vl_parse_grammar.proofs.Onto.{onto_kinds, all_of}
use Rattle.vl_parse_grammar.proofs.Runs as runs
use Rattle.vl_parse_grammar.proofs.Measured.{Ran, run}
use Rattle.vl_parse_grammar.proofs.SourceRuns.{source_runs}
use Rattle.vl_parse_grammar.proofs.Depth.{by_first}
use Rattle.vl_parse_grammar.proofs.FirstFault.{right}

-- a text is read, or cut off where 257 constructs are open
pub text_run : (tree : Source) → IsSource tree
    → grammar.run (kinds (spell_source tree)) ≡ unless_too_deep (too_deep_at tree)
text_run tree w =
    ap grammar.run (sym (onto_kinds (spell_source tree) [] ∙ all_of (kinds (spell_source tree))))
    ∙ source_runs tree 256 w ∙ by_first (spell_source tree) 256

clash : {A : Type 0} (l m : ℕ) → ◌≡◌ {A = Ran} (Err (syntax l)) (Err (deep m)) → A
clash l m h = absurd (no h)
  where
    no : ◌≡◌ {A = Ran} (Err (syntax l)) (Err (deep m)) → ⊥
    no h = cc

ok_clash : {A : Type 0} (m : ℕ) → ◌≡◌ {A = Ran} (Ok tt) (Err (deep m)) → A
ok_clash m h = absurd (no h)
  where
    no : ◌≡◌ {A = Ran} (Ok tt) (Err (deep m)) → ⊥
    no h = cc

deep_same : (l m : ℕ) → ◌≡◌ {A = Ran} (Err (deep l)) (Err (deep m)) → l ≡ m
deep_same l m h = cc

-- no run is cut off before its tokens
bound : (xs : Row Rule) (ts : List Kind) (l : ℕ) → run xs ts ≡ Err (deep l) → l ≤ length ts
bound xs ts l h =
    by_stop (subst (λ o. runs.At expand ends (machine.symbols xs) ts o) h (runs.run_at expand ends xs ts))
  where
    by_stop : runs.TooDeep expand ends (machine.symbols xs) ts l → l ≤ length ts
    by_stop w =
        (let e : length ts ≡ length w.before + suc (length w.behind) = ap length w.same
        ∙ length-append w.before (w.token ∷ w.behind) in
        omega (arith, e, w.long))

abbrev on : Stepped Rule → List Kind → Ran
on found ts = elim found as (λ _. Ran) [
  | stuck ↦ Err (syntax (suc (length ts)))
  | emptied ↦ Err (syntax (suc (length ts)))
  | over ↦ Err (deep (suc (length ts)))
  | goes j ↦ run j ts
]

-- what is behind the token at which a run is cut off does not matter
pub same_stop : (xs : Row Rule) (before : List Kind) (t : Kind) (behind other : List Kind)
    → run xs (before ++ t ∷ behind) ≡ Err (deep (suc (length behind)))
    → run xs (before ++ t ∷ other) ≡ Err (deep (suc (length other)))
same_stop xs [] t behind other h = by_step (step expand xs t) h
  where
    by_step : (found : Stepped Rule) → on found behind ≡ Err (deep (suc (length behind)))
        → on found other ≡ Err (deep (suc (length other)))
    by_step stuck h = clash _ _ h
    by_step emptied h = clash _ _ h
    by_step over h = refl
    by_step (goes j) h = absurd (omega (arith, bound j behind (suc (length behind)) h))
same_stop xs (u ∷ us) t behind other h = by_step (step expand xs u) h (λ j. same_stop j us t behind other)
  where
    by_step : (found : Stepped Rule) → on found (us ++ t ∷ behind) ≡ Err (deep (suc (length behind)))
        → ((j : Row Rule) → run j (us ++ t ∷ behind) ≡ Err (deep (suc (length behind)))
        → run j (us ++ t ∷ other) ≡ Err (deep (suc (length other))))
        → on found (us ++ t ∷ other) ≡ Err (deep (suc (length other)))
    by_step stuck h next = clash _ _ h
    by_step emptied h next = clash _ _ h
    by_step over h next =
        (let e : suc (length (us ++ t ∷ behind)) ≡ suc (length behind) = deep_same _ _ h in
        absurd (omega (arith, e, length-append us (t ∷ behind))))
    by_step (goes j) h next = next j h

first_of : (o : Option ℕ) (l : ℕ) → unless_too_deep o ≡ Err (deep l) → o ≡ Some l
first_of None l h = ok_clash l h
first_of (Some m) l h = ap Some (deep_same m l h)

pub too_deep : (ts : List Token) (l : ℕ) → grammar.run (kinds_of ts) ≡ Err (deep l) → IsTooDeep (kinds_of ts) l
too_deep ts l h =
    let r = right ts l h in
    let x = r.goes_on in
    let here : run start (r.before ++ r.token ∷ r.behind) ≡ Err (deep (suc (length r.behind))) =
    ap grammar.run (sym r.same) ∙ h ∙ ap (λ m. Err (deep m)) (sym r.long) in
    record {
      before = r.before;
      token = r.token;
      behind = r.behind;
      same = r.same;
      long = r.long;
      tree = x.tree;
      formed = x.formed;
      rest = r.rest;
      spelled = x.spelled;
      first = first_of (too_deep_at x.tree) (suc (length r.rest))
          (sym (text_run x.tree x.formed) ∙ ap grammar.run x.spelled
          ∙ same_stop start r.before r.token r.behind r.rest here);
    }
