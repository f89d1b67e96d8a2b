-- What the watches keep as the trail changes between two looks.
use Rattle.std.proofs.Common.{◌≡◌, ◌≤◌, true, eqb, [], ◌∷◌, length, get_or, ap, sym, subst, ◌∙◌, inl, inr}
use Rattle.lrat_check.specs.Codes.{code_of, flip}
use Rattle.lrat_check.specs.Store.{Coded, coded}
use Rattle.sat_trail.specs.declared.trail.Entry.{Entry}
use Rattle.sat_trail.specs.Trail.{Entries, is_decision, true_codes, has_code}
use Rattle.sat_trail.proofs.Members.{or_right}
use Rattle.sat_trail.proofs.Standing.{oldest_part}
use Rattle.sat_propagate.specs.Watching.{is_false_code, Calm, CalmBelow}
use Rattle.sat_propagate.specs.Watches.{State, Keeps}
use Rattle.sat_propagate.specs.Laws.{IsOlder}
use Rattle.sat_propagate.proofs.Quiets.{satisfied_more}
use Rattle.sat_propagate.proofs.Steps.{among_oldest}

-- an entry comes; a decision where all is calm
pub pushed_on : (w : State) (t : Entries) (e : Entry) → Keeps w t → w.head ≤ length t
    → (is_decision e ≡ true → Calm (coded w.store) (true_codes t)) → Keeps w (e ∷ t)
pushed_on w t e k l d = record {
  watched = record {
    two = k.watched.two;
    apart = k.watched.apart;
    kept = λ id c place h m. elim (k.watched.kept id c place h m) [
      | inl q ↦ inl (record {
        inside = q.inside;
        calm = λ f. satisfied_more (true_codes t) (true_codes (e ∷ t)) c
            (λ x g. or_right (eqb x (code_of e.lit)) (has_code (true_codes t) x) g)
            (q.calm (ap (λ z. is_false_code (true_codes z) (get_or c place 0)) (sym (oldest_part e t w.head l)) ∙ f));
      })
      | inr r ↦ inr r
    ];
  };
  calm = (d, k.calm);
  ready = k.ready;
  fit = k.fit;
  lit = k.lit;
}

calm_older : (held : Coded) (t u : Entries) → CalmBelow held t → IsOlder t u
    → Calm held (true_codes u) × CalmBelow held u
calm_older held [] u c o = absurd o
calm_older held (e ∷ t) u c o = elim o [
  | inl q ↦ (
    subst (λ z. Calm held (true_codes z)) (sym q.1) (c.0 q.0),
    subst (CalmBelow held) (sym q.1) c.1,
  )
  | inr q ↦ calm_older held t u c.1 q
]

-- the trail is cut to what is older than a decision
pub cut_on : (w : State) (t u : Entries) → Keeps w t → IsOlder t u → Keeps w u
cut_on w t u k o =
    let c = calm_older (coded w.store) t u k.calm o in
    record {
      watched = record {
        two = k.watched.two;
        apart = k.watched.apart;
        kept = λ id d place h m. elim (k.watched.kept id d place h m) [
          | inl q ↦ inl (record {
            inside = q.inside;
            calm = λ f. c.0 id d place h m (among_oldest w.head u (flip (get_or d place 0)) f);
          })
          | inr r ↦ inr r
        ];
      };
      calm = c.1;
      ready = k.ready;
      fit = k.fit;
      lit = k.lit;
    }
