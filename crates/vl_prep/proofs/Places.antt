-- Each place in what preprocessing comes to is that of a token of the text.
use Rattle.std.proofs.Common.{◌≡◌, ℕ, zero, suc, List, [], ◌∷◌, length, subst}
use Rattle.std.proofs.lemmas.List.Elements.{All-nil, All-push, All-head, All-tail, All-contains_itself}
use Rattle.std.specs.List.{All, Contains}
use Rattle.std.specs.Prelude.{Bool, true, false, cond, not, nat_lt, Option, Some, None, IfSome, Result, Ok, Err}
use Rattle.fv_text.specs.declared.kind.Kind.{Kind}
use Rattle.fv_text.specs.declared.kind.Kind.TheVariants as k
use Rattle.fv_text.specs.declared.pos.Pos.{Pos}
use Rattle.fv_text.specs.declared.token.Token.{Token}
use Rattle.vl_prep.specs.declared.directive.Directive.{Directive}
use Rattle.vl_prep.specs.declared.directive.Directive.TheVariants.{Define, Undef, IfDef, IfNotDef, ElseIf, Else}
use Rattle.vl_prep.specs.declared.directive.Directive.TheVariants.{EndIf, Include, TimeScale, DefaultNetType}
use Rattle.vl_prep.specs.declared.fault.PrepFault.{PrepFault}
use Rattle.vl_prep.specs.declared.fault.PrepFault.TheVariants as fault
use Rattle.vl_prep.specs.declared.opens.Open.{Open}
use Rattle.vl_prep.specs.declared.reading.Reading.{Reading}
use Rattle.vl_prep.specs.declared.reading.Reading.TheVariants.{Plain, Named, Body as InBody, Dropped}
use Rattle.vl_prep.specs.declared.reading.Body.{Body}
use Rattle.vl_prep.specs.declared.refusal.Cause.{Cause}
use Rattle.vl_prep.specs.declared.refusal.Cause.TheVariants as cause
use Rattle.vl_prep.specs.declared.refusal.Refusal.{Refusal}
use Rattle.vl_prep.specs.Directive.{directive_of}
use Rattle.vl_prep.specs.Faults.{OnNotMemory}
use Rattle.vl_prep.specs.Lines.{on_line, goes_on, has_bracket}
use Rattle.vl_prep.specs.Macros.{Held}
use Rattle.vl_prep.specs.Opens.{are_chosen, is_open, can_turn, opened, turned, closed}
use Rattle.vl_prep.specs.Places.{fault_place, places, IsPlaced, IsPlacedFault}
use Rattle.vl_prep.specs.Refusals.{is_before, least, refusal, fault_of}
use Rattle.vl_prep.specs.Prep.{Done, Stand, Outcome, at_first, begun, with_done, with_opens, moved, put, put_out}
use Rattle.vl_prep.specs.Prep.{refused, redefined, is_defined, all_refused, body_with, end_of_body, place, refused_at}
use Rattle.vl_prep.specs.Prep.{put_chosen, in_chosen, at_directive, named, in_body, reading_ended, at_end, use_of}
use Rattle.vl_prep.specs.Prep.{at_use, at_tick, at_plain, at_named, at_token, read_from, started, expand, answer}
use Rattle.vl_prep.specs.Prep.{answer_of, preprocessed}

-- what holds of the places of a text's tokens
module _ (P : Pos → Type 0) where
  abbrev AreIn : List Token → Type 0
  AreIn ts = All (λ t. P t.pos) ts

  abbrev OpensIn : List Open → Type 0
  OpensIn [] = Unit {0}
  OpensIn (o ∷ os) = P o.place × OpensIn os

  record DoneIn (done : Done) : Type 0 where
    output : AreIn done.output
    refusal : IfSome done.refusal (λ r. P r.place)

  abbrev ComesIn : Result Outcome PrepFault → Type 0
  ComesIn (Ok r) = AreIn r.output
  ComesIn (Err f) = IfSome (fault_place f) P

  cond_done : (b : Bool) (d e : Done) → DoneIn d → DoneIn e → DoneIn (cond b d e)
  cond_done true d e h i = h
  cond_done false d e h i = i

  cond_refusal : (b : Bool) (r s : Refusal) → P r.place → P s.place → P (cond b r s).place
  cond_refusal true r s h i = h
  cond_refusal false r s h i = i

  least_in : (o : Option Refusal) (r : Refusal) → IfSome o (λ s. P s.place) → P r.place → P (least o r).place
  least_in None r h i = i
  least_in (Some s) r h i = cond_refusal (is_before r s) r s i h

  refused_in : (p : Pos) (c : Cause) (done : Done) → P p → DoneIn done → DoneIn (refused p c done)
  refused_in p c done h i = record { output = i.output; refusal = least_in done.refusal (refusal p c) i.refusal h }

  redefined_in : (name : List ℕ) (text : Option (List Token)) (done : Done) → DoneIn done
      → DoneIn (redefined name text done)
  redefined_in name text done i = record { output = i.output; refusal = i.refusal }

  put_out_in : (done : Done) (t : Token) → DoneIn done → P t.pos → DoneIn (put_out done t)
  put_out_in done t h p = record { output = All-push (λ u. P u.pos) done.output t h.output p; refusal = h.refusal }

  put_in : (done : Done) (t : Token) → DoneIn done → P t.pos → DoneIn (put done t)
  put_in done t h p = cond_done (nat_lt (length done.output) 2000000) (put_out done t)
      (refused t.pos cause.TooManyTokens done) (put_out_in done t h p) (refused_in t.pos cause.TooManyTokens done p h)

  all_refused_in : (os : List Open) (done : Done) → OpensIn os → DoneIn done → DoneIn (all_refused os done)
  all_refused_in [] done h i = i
  all_refused_in (o ∷ os) done h i = all_refused_in os (refused o.place cause.UnbalancedIf done) h.1
      (refused_in o.place cause.UnbalancedIf done h.0 i)

  turned_in : (last decided : Bool) (os : List Open) → OpensIn os → OpensIn (turned last decided os)
  turned_in last decided [] h = tt
  turned_in last decided (o ∷ os) h = h

  closed_in : (os : List Open) → OpensIn os → OpensIn (closed os)
  closed_in [] h = tt
  closed_in (o ∷ os) h = h.1

  -- one text, read at a place
  module _ (at : Option Pos) where
    abbrev BegunIn : Reading → Type 0
    BegunIn (Named d pos) = P (place at pos)
    BegunIn reading = Unit {0}

    record StandIn (s : Stand) : Type 0 where
      done : DoneIn s.done
      opens : OpensIn s.opens
      reading : BegunIn s.reading

    abbrev TextIn : List Token → Type 0
    TextIn [] = Unit {0}
    TextIn (t ∷ ts) = P (place at t.pos) × TextIn ts

    cond_stand : (b : Bool) (n m : Stand) → StandIn n → StandIn m → StandIn (cond b n m)
    cond_stand true n m h i = h
    cond_stand false n m h i = i

    begun_in : (s : Stand) (r : Reading) → StandIn s → BegunIn r → StandIn (begun s r)
    begun_in s r h i = record { done = h.done; opens = h.opens; reading = i }

    with_done_in : (s : Stand) (done : Done) → StandIn s → DoneIn done → StandIn (with_done s done)
    with_done_in s done h i = record { done = i; opens = h.opens; reading = tt }

    with_opens_in : (s : Stand) (os : List Open) → StandIn s → OpensIn os → StandIn (with_opens s os)
    with_opens_in s os h i = record { done = h.done; opens = i; reading = tt }

    refused_at_in : (s : Stand) (pos : Pos) (c : Cause) → StandIn s → P (place at pos) → StandIn (refused_at at s pos c)
    refused_at_in s pos c h p =
        with_done_in s (refused (place at pos) c s.done) h (refused_in (place at pos) c s.done p h.done)

    put_chosen_in : (s : Stand) (t : Token) → StandIn s → P (place at t.pos) → StandIn (put_chosen at s t)
    put_chosen_in s t h p =
        cond_stand (are_chosen s.opens) (with_done s (put s.done (moved t (place at t.pos)))) (begun s Plain)
        (with_done_in s (put s.done (moved t (place at t.pos))) h
        (put_in s.done (moved t (place at t.pos)) h.done p)) (begun_in s Plain h tt)

    in_chosen_in : (s : Stand) (d : Directive) (pos : Pos) → StandIn s → P (place at pos)
        → StandIn (in_chosen at s d pos)
    in_chosen_in s Define pos h p = begun_in s (Named Define pos) h p
    in_chosen_in s Undef pos h p = begun_in s (Named Undef pos) h p
    in_chosen_in s Include pos h p = refused_at_in s pos cause.Include h p
    in_chosen_in s IfDef pos h p = begun_in s (Dropped pos) h tt
    in_chosen_in s IfNotDef pos h p = begun_in s (Dropped pos) h tt
    in_chosen_in s ElseIf pos h p = begun_in s (Dropped pos) h tt
    in_chosen_in s Else pos h p = begun_in s (Dropped pos) h tt
    in_chosen_in s EndIf pos h p = begun_in s (Dropped pos) h tt
    in_chosen_in s TimeScale pos h p = begun_in s (Dropped pos) h tt
    in_chosen_in s DefaultNetType pos h p = begun_in s (Dropped pos) h tt

    where_chosen : (s : Stand) (d : Directive) (pos : Pos) → StandIn s → P (place at pos)
        → StandIn (cond (are_chosen s.opens) (in_chosen at s d pos) (begun s Plain))
    where_chosen s d pos h p = cond_stand (are_chosen s.opens) (in_chosen at s d pos) (begun s Plain)
        (in_chosen_in s d pos h p) (begun_in s Plain h tt)

    alone_in : (b : Bool) (s next : Stand) (pos : Pos) → StandIn s → P (place at pos) → StandIn next
        → StandIn (cond b next (refused_at at s pos cause.UnbalancedIf))
    alone_in b s next pos h p i =
        cond_stand b next (refused_at at s pos cause.UnbalancedIf) i (refused_at_in s pos cause.UnbalancedIf h p)

    directive_in : (s : Stand) (d : Directive) (pos : Pos) → StandIn s → P (place at pos)
        → StandIn (at_directive at s d pos)
    directive_in s IfDef pos h p = begun_in s (Named IfDef pos) h p
    directive_in s IfNotDef pos h p = begun_in s (Named IfNotDef pos) h p
    directive_in s ElseIf pos h p =
        alone_in (can_turn s.opens) s (begun s (Named ElseIf pos)) pos h p (begun_in s (Named ElseIf pos) h p)
    directive_in s Else pos h p = alone_in (can_turn s.opens) s (with_opens s (turned true true s.opens)) pos h p
        (with_opens_in s (turned true true s.opens) h (turned_in true true s.opens h.opens))
    directive_in s EndIf pos h p = alone_in (is_open s.opens) s (with_opens s (closed s.opens)) pos h p
        (with_opens_in s (closed s.opens) h (closed_in s.opens h.opens))
    directive_in s Define pos h p = where_chosen s Define pos h p
    directive_in s Undef pos h p = where_chosen s Undef pos h p
    directive_in s Include pos h p = where_chosen s Include pos h p
    directive_in s TimeScale pos h p = where_chosen s TimeScale pos h p
    directive_in s DefaultNetType pos h p = where_chosen s DefaultNetType pos h p

    opened_in : (s : Stand) (at_d : Pos) (b : Bool) → StandIn s → P (place at at_d)
        → StandIn (with_opens s (opened (place at at_d) b s.opens))
    opened_in s at_d b h p = with_opens_in s (opened (place at at_d) b s.opens) h (p, h.opens)

    named_in : (s : Stand) (d : Directive) (at_d : Pos) (name : List ℕ) (pos : Pos) → StandIn s → P (place at at_d)
        → StandIn (named at s d at_d name pos)
    named_in s Define at_d name pos h p = record { done = h.done; opens = h.opens; reading = tt }
    named_in s Undef at_d name pos h p =
        with_done_in s (redefined name None s.done) h (redefined_in name None s.done h.done)
    named_in s IfNotDef at_d name pos h p = opened_in s at_d (not (is_defined s.done name)) h p
    named_in s ElseIf at_d name pos h p = with_opens_in s (turned false (is_defined s.done name) s.opens) h
        (turned_in false (is_defined s.done name) s.opens h.opens)
    named_in s IfDef at_d name pos h p = opened_in s at_d (is_defined s.done name) h p
    named_in s Else at_d name pos h p = opened_in s at_d (is_defined s.done name) h p
    named_in s EndIf at_d name pos h p = opened_in s at_d (is_defined s.done name) h p
    named_in s Include at_d name pos h p = opened_in s at_d (is_defined s.done name) h p
    named_in s TimeScale at_d name pos h p = opened_in s at_d (is_defined s.done name) h p
    named_in s DefaultNetType at_d name pos h p = opened_in s at_d (is_defined s.done name) h p

    in_body_in : (s : Stand) (b : Body) (t : Token) → StandIn s → P (place at t.pos) → StandIn (in_body at s b t)
    in_body_in s b t h p =
        record {
          done = cond_done (has_bracket b t) (refused (place at t.pos) cause.MacroArgs s.done) s.done
              (refused_in (place at t.pos) cause.MacroArgs s.done p h.done) h.done;
          opens = h.opens;
          reading = tt;
        }

    ended_in : (s : Stand) (r : Reading) → DoneIn s.done → BegunIn r → DoneIn (reading_ended at s r)
    ended_in s Plain h i = h
    ended_in s (Named d pos) h i = refused_in (place at pos) cause.NoName s.done i h
    ended_in s (InBody b) h i = redefined_in b.name (Some b.tokens) s.done h
    ended_in s (Dropped pos) h i = h

    at_end_in : (s : Stand) → StandIn s → DoneIn (at_end at s)
    at_end_in s h =
        all_refused_in s.opens (reading_ended at s s.reading) h.opens (ended_in s s.reading h.done h.reading)

    module _ (f : Pos → List Token → Done → Done)
        (expands : (p : Pos) (text : List Token) (done : Done) → P p → DoneIn done → DoneIn (f p text done)) where
      use_in : (done : Done) (name : List ℕ) (pos : Pos) (text : Option (List Token)) → DoneIn done
          → P (place at pos) → DoneIn (use_of at f done name pos text)
      use_in done name pos None h p = refused_in (place at pos) (cause.UnknownMacro name) done p h
      use_in done name pos (Some text) h p = expands (place at pos) text done p h

      at_use_in : (s : Stand) (name : List ℕ) (pos : Pos) → StandIn s → P (place at pos)
          → StandIn (at_use at f s name pos)
      at_use_in s name pos h p =
          cond_stand (are_chosen s.opens) (with_done s (use_of at f s.done name pos (s.done.macros name)))
          (begun s Plain)
          (with_done_in s (use_of at f s.done name pos (s.done.macros name)) h
          (use_in s.done name pos (s.done.macros name) h.done p)) (begun_in s Plain h tt)

      tick_in : (s : Stand) (word : List ℕ) (pos : Pos) (d : Option Directive) → StandIn s → P (place at pos)
          → StandIn (at_tick at f s word pos d)
      tick_in s word pos (Some d) h p = directive_in s d pos h p
      tick_in s word pos None h p = at_use_in s word pos h p

      plain_in : (s : Stand) (t : Token) (kind : Kind) → StandIn s → P (place at t.pos)
          → StandIn (at_plain at f s t kind)
      plain_in s t (k.Tick word) h p = tick_in s word t.pos (directive_of word) h p
      plain_in s t k.Continue h p = begun_in s Plain h tt
      plain_in s t (k.Name x) h p = put_chosen_in s t h p
      plain_in s t (k.Keyword x) h p = put_chosen_in s t h p
      plain_in s t (k.Symbol x) h p = put_chosen_in s t h p
      plain_in s t (k.Number x) h p = put_chosen_in s t h p
      plain_in s t (k.System x) h p = put_chosen_in s t h p
      plain_in s t k.Quoted h p = put_chosen_in s t h p

      nameless_in : (s : Stand) (pos : Pos) (t : Token) → StandIn s → P (place at pos) → P (place at t.pos)
          → StandIn (at_plain at f (refused_at at s pos cause.NoName) t t.kind)
      nameless_in s pos t h i p =
          plain_in (refused_at at s pos cause.NoName) t t.kind (refused_at_in s pos cause.NoName h i) p

      at_named_in : (s : Stand) (d : Directive) (pos : Pos) (t : Token) (kind : Kind) → StandIn s → P (place at pos)
          → P (place at t.pos) → StandIn (at_named at f s d pos t kind)
      at_named_in s d pos t (k.Name name) h i p =
          cond_stand (on_line pos t.pos) (named at s d pos name t.pos)
          (at_plain at f (refused_at at s pos cause.NoName) t t.kind) (named_in s d pos name t.pos h i)
          (nameless_in s pos t h i p)
      at_named_in s d pos t (k.Tick word) h i p = nameless_in s pos t h i p
      at_named_in s d pos t k.Continue h i p = nameless_in s pos t h i p
      at_named_in s d pos t (k.Keyword x) h i p = nameless_in s pos t h i p
      at_named_in s d pos t (k.Symbol x) h i p = nameless_in s pos t h i p
      at_named_in s d pos t (k.Number x) h i p = nameless_in s pos t h i p
      at_named_in s d pos t (k.System x) h i p = nameless_in s pos t h i p
      at_named_in s d pos t k.Quoted h i p = nameless_in s pos t h i p

      token_in : (s : Stand) (t : Token) (r : Reading) → StandIn s → BegunIn r → P (place at t.pos)
          → StandIn (at_token at f s t r)
      token_in s t Plain h i p = plain_in s t t.kind h p
      token_in s t (Named d pos) h i p = at_named_in s d pos t t.kind h i p
      token_in s t (InBody b) h i p =
          cond_stand (goes_on b t.pos) (in_body at s b t) (at_plain at f (end_of_body s b) t t.kind)
          (in_body_in s b t h p)
          (plain_in (end_of_body s b) t t.kind (with_done_in s (redefined b.name (Some b.tokens) s.done) h
          (redefined_in b.name (Some b.tokens) s.done h.done)) p)
      token_in s t (Dropped pos) h i p =
          cond_stand (on_line pos t.pos) (begun s (Dropped pos)) (at_plain at f s t t.kind)
          (begun_in s (Dropped pos) h tt) (plain_in s t t.kind h p)

      read_in : (s : Stand) (ts : List Token) → StandIn s → TextIn ts → DoneIn (read_from at f s ts)
      read_in s [] h i = at_end_in s h
      read_in s (t ∷ ts) h i = read_in (at_token at f s t s.reading) ts (token_in s t s.reading h h.reading i.0) i.1

  -- all of a use has its place
  used_in : (p : Pos) (ts : List Token) → P p → TextIn (Some p) ts
  used_in p [] h = tt
  used_in p (t ∷ ts) h = (h, used_in p ts h)

  expand_in : (n : ℕ) (p : Pos) (text : List Token) (done : Done) → P p → DoneIn done → DoneIn (expand n p text done)
  unfolding expand
  expand_in zero p text done h i = refused_in p cause.MacroDepth done h i
  expand_in (suc n) p text done h i =
      read_in (Some p) (expand n) (λ q ts d x y. expand_in n q ts d x y) (started done) text
      (record { done = i; opens = tt; reading = tt }) (used_in p text h)

  text_in : (ts : List Token) → All P (places ts) → TextIn None ts
  text_in [] h = tt
  text_in (t ∷ ts) h = (All-head P t.pos (places ts) h, text_in ts (All-tail P t.pos (places ts) h))

  cause_in : (p : Pos) (c : Cause) → P p → IfSome (fault_place (fault_of (refusal p c))) P
  cause_in p (cause.UnknownMacro name) h = h
  cause_in p cause.UnbalancedIf h = h
  cause_in p cause.MacroArgs h = h
  cause_in p cause.MacroDepth h = h
  cause_in p cause.Include h = h
  cause_in p cause.TooManyTokens h = h
  cause_in p cause.NoName h = h

  answer_in : (done : Done) (o : Option Refusal) → AreIn done.output → IfSome o (λ r. P r.place)
      → ComesIn (answer_of done o)
  answer_in done None h i = h
  answer_in done (Some r) h i = cause_in r.place r.cause i

  pub preprocessed_in : (macros : Held) (tokens : List Token) → All P (places tokens)
      → ComesIn (preprocessed macros tokens)
  preprocessed_in macros tokens h =
      let d = read_in None (expand 32) (expand_in 32) (started (at_first macros)) tokens
      (record { done = record { output = All-nil (λ t. P t.pos); refusal = tt }; opens = tt; reading = tt })
      (text_in tokens h) in
      answer_in (read_from None (expand 32) (started (at_first macros)) tokens)
      (read_from None (expand 32) (started (at_first macros)) tokens).refusal d.output d.refusal

placed : (macros : Held) (tokens : List Token) → ComesIn (Contains (places tokens)) (preprocessed macros tokens)
placed macros tokens = preprocessed_in (Contains (places tokens)) macros tokens (All-contains_itself (places tokens))

pub placed_output : (macros : Held) (tokens : List Token) (r : Outcome) → preprocessed macros tokens ≡ Ok r
    → IsPlaced tokens r.output
placed_output macros tokens r e = subst (λ z. ComesIn (Contains (places tokens)) z) e (placed macros tokens)

pub placed_at : (macros : Held) (tokens : List Token) (f : PrepFault) → preprocessed macros tokens ≡ Err f
    → IsPlacedFault tokens f
placed_at macros tokens f e = subst (λ r. ComesIn (Contains (places tokens)) r) e (placed macros tokens)

pub placed_fault : (macros : Held) (tokens : List Token) (f : PrepFault)
    → OnNotMemory f (preprocessed macros tokens ≡ Err f) → IsPlacedFault tokens f
placed_fault macros tokens (fault.UnknownMacro name at) e = placed_at macros tokens (fault.UnknownMacro name at) e
placed_fault macros tokens (fault.UnbalancedIf at) e = placed_at macros tokens (fault.UnbalancedIf at) e
placed_fault macros tokens (fault.MacroArgs at) e = placed_at macros tokens (fault.MacroArgs at) e
placed_fault macros tokens (fault.MacroDepth at) e = placed_at macros tokens (fault.MacroDepth at) e
placed_fault macros tokens (fault.Include at) e = placed_at macros tokens (fault.Include at) e
placed_fault macros tokens (fault.TooManyTokens at) e = placed_at macros tokens (fault.TooManyTokens at) e
placed_fault macros tokens (fault.NoName at) e = placed_at macros tokens (fault.NoName at) e
placed_fault macros tokens fault.Memory e = tt
