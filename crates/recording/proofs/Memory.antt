-- More memory never changes an answer of the public calls.
use Prim.Native.Nat.{◌≤◌}
use mathlib.Core.Path.{◌≡◌, sym, ap, ◌∙◌}
use mathlib.Core.List.{List, map}
use lib.ListN.{length, length-map}
use Rattle.plain.specs.Plain.{plain}
use Rattle.memory.specs.Claim as rules
use Rattle.memory.proofs.Memory as memory
use Rattle.own.specs.Settings.{settings_of}
use Rattle.own.specs.declared.Own.{Own}
use Rattle.row.specs.Meaning.{instance_of, route_of}
use Rattle.called.specs.Calls.{Node, Called}
use Rattle.recording.specs.Recording.{left, seen, calls, Claim}
use Rattle.recording.proofs.Real.{state_in, dones, ran, fresh, seen_is, calls_is, left_is}

-- the plain node with as many rows as a node has
as_plain : (o : Own) (n : Node) (es : List Called)
    → map rules.after (dones es) ≡ plain (settings_of o) (length (state_in n).instances) (length (state_in n).routes) (rules.calls (dones es))
    → seen es ≡ plain (settings_of o) (length n.instances) (length n.routes) (calls es)
as_plain o n es e =
    sym (seen_is es) ∙ rw (sym (length-map n.instances instance_of), sym (length-map n.routes route_of), sym (calls_is es)) e

pub more_memory : Claim
more_memory o n m es fs f r g w h j c = record {
  first = as_plain o n es all.first;
  second = as_plain o m fs all.second;
  alike = sym (seen_is (left es)) ∙ ap (map rules.after) (sym (left_is es)) ∙ all.alike ∙ seen_is fs;
}
  where
    more : {A B : Type 0} (meaning : A → B) (xs ys : List A) → length xs ≤ length ys → length (map meaning xs) ≤ length (map meaning ys)
    more meaning xs ys l = rw (length-map xs meaning, length-map ys meaning) l

    all : rules.MoreMemory (settings_of o) (state_in n) (state_in m) (dones es) (dones fs)
    all =
        memory.more_memory (settings_of o) (state_in n) (state_in m) (dones es) (dones fs) (fresh n f) (ran o n es r) (fresh m g) (ran o m fs w)
        (more instance_of n.instances m.instances h) (more route_of n.routes m.routes j)
        (calls_is fs ∙ c ∙ sym (calls_is (left es)) ∙ ap rules.calls (sym (left_is es)))
