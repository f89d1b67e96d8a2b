-- What is said of trees follows from what reading by the grammar comes to.
use Rattle.std.proofs.Common.{sym, subst}
use Rattle.std.specs.Prelude.{Ok, Err}
use Rattle.vl_tree.specs.Phrase.{kinds_of}
use Rattle.vl_parse_grammar.specs.Machine.{syntax, deep}
use Rattle.vl_parse_grammar.specs.Grammar.{read, modules, run}
use Rattle.vl_parse.specs.Faults.{Answers, deep_fault}
use Rattle.vl_parse_cursor.specs.Goes.{Ends}
use Rattle.vl_parse_cursor.specs.Next.{kinds_in}
use Rattle.vl_parse.proofs.Top.{answers_ok, answers_stop, memory_or}
use Rattle.vl_parse.proofs.Refusals.{shallow, one, gives, fault_of_tokens, refuses_faulty, refuses_deep}
use Rattle.vl_parse.proofs.parser.parse.Goals as goal

pub returns-in-Ok : goal.returns-in-Ok
returns-in-Ok c =
    let ts = c.args.tokens.now in
    let tree = c.in-Ok.source in
    let h = c.in-Ok.ensures in
    let a : Answers ts (Ok tree) (run (kinds_of ts)) = answers_ok ts tree h.goes in
    record {
      found = h.found;
      formed = h.formed;
      shallow = shallow ts tree h.formed h.found a;
      one = λ other i. one ts tree (h.formed, h.found) other i;
      refused = tt;
      each_tree = λ other i s. sym (one ts tree (h.formed, h.found) other i);
      each_faulty_token = λ left x none. refuses_faulty ts (Ok tree) a left x none;
      each_deep_token = λ left x. refuses_deep ts (Ok tree) a left x;
      answers = a;
    }

pub returns-in-Err-Wrong : goal.returns-in-Err-Wrong
returns-in-Err-Wrong c =
    let ts = c.args.tokens.now in
    let found = c.wrong.result in
    let goes = subst (λ e. Ends e (read modules 256
    (kinds_in ts))) c.in-Err-Wrong.field-0-is c.in-Err-Wrong.ensures.goes in
    let a : Answers ts (Err found) (run (kinds_of ts)) = answers_stop ts
    (syntax c.in-Err-Wrong.left) found goes c.wrong.ensures in
    record {
      found = tt;
      formed = tt;
      shallow = tt;
      one = tt;
      refused = fault_of_tokens ts found a;
      each_tree = λ tree i s. gives ts found a tree i s;
      each_faulty_token = λ left x none. refuses_faulty ts (Err found) a left x none;
      each_deep_token = λ left x. refuses_deep ts (Err found) a left x;
      answers = a;
    }

pub returns-in-Err-TooDeep : goal.returns-in-Err-TooDeep
returns-in-Err-TooDeep c =
    let ts = c.args.tokens.now in
    let found = c.too_deep.result in
    let left = c.in-Err-TooDeep.left in
    let goes = subst (λ e. Ends e (read modules 256
    (kinds_in ts))) c.in-Err-TooDeep.field-0-is c.in-Err-TooDeep.ensures.goes in
    let a : Answers ts (Err found) (run (kinds_of ts)) =
    answers_stop ts (deep left) found goes (memory_or (deep_fault ts left) found c.too_deep.ensures) in
    record {
      found = tt;
      formed = tt;
      shallow = tt;
      one = tt;
      refused = fault_of_tokens ts found a;
      each_tree = λ tree i s. gives ts found a tree i s;
      each_faulty_token = λ left x none. refuses_faulty ts (Err found) a left x none;
      each_deep_token = λ left x. refuses_deep ts (Err found) a left x;
      answers = a;
    }
