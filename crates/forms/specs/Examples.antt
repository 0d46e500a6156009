-- The lines that documents 01 and 02 show are those of their forms; and what is read of lines that take. Assumes nothing.
use Rattle.std.specs.Prelude.{◌≡◌, None, List, [], ◌∷◌, map, ℕ}
use Rattle.decimal.specs.Bytes.{bytes}
use Rattle.forms.specs.declared.RingStep.{RingStep}
use Rattle.forms.specs.declared.RingStep.TheVariants.{TakeOne, Take}
use Rattle.forms.specs.Form.{Form, bare_ring, ring_with, tree_of, send, take_one, take_with, idle, probe, pass, ack, leave, announce, update, form_text}
use Rattle.forms.specs.Read.{Read, read, ring_at}

abbrev pub shown : List Form
shown =
    ring_with 2 [] (1 ∷ [])
    ∷ bare_ring 2
    ∷ tree_of 3 0
    ∷ send 0 1
    ∷ take_one 1
    ∷ idle 0
    ∷ probe
    ∷ pass 1
    ∷ announce
    ∷ take_with 1 0
    ∷ ack 0
    ∷ leave 1
    ∷ ring_with 3 (0 ∷ 2 ∷ []) []
    ∷ send 10 99999
    ∷ take_with 2 5
    ∷ update 2 (send 0 3)
    ∷ update 2 (bare_ring 4)
    ∷ update 7 (ring_with 4 (0 ∷ []) [])
    ∷ update 0 (take_with 2 5)
    ∷ []

abbrev pub shown_lines : List (List ℕ)
shown_lines =
    bytes "(ring 2 (active) (black 1))\n"
    ∷ bytes "(ring 2)\n"
    ∷ bytes "(tree 3 (root 0))\n"
    ∷ bytes "(send 0 1)\n"
    ∷ bytes "(take 1)\n"
    ∷ bytes "(idle 0)\n"
    ∷ bytes "(probe)\n"
    ∷ bytes "(pass 1)\n"
    ∷ bytes "(announce)\n"
    ∷ bytes "(take 1 0)\n"
    ∷ bytes "(ack 0)\n"
    ∷ bytes "(leave 1)\n"
    ∷ bytes "(ring 3 (active 0 2) (black))\n"
    ∷ bytes "(send 10 99999)\n"
    ∷ bytes "(take 2 5)\n"
    ∷ bytes "(update 2 (send 0 3))\n"
    ∷ bytes "(update 2 (ring 4))\n"
    ∷ bytes "(update 7 (ring 4 (active 0) (black)))\n"
    ∷ bytes "(update 0 (take 2 5))\n"
    ∷ []

abbrev pub LinesShown : Type 0
LinesShown = map form_text shown ≡ shown_lines

-- what is read of a take on the ring: its numbers are judged later, but have one to five digits without leading zeros
abbrev pub takes : List (List ℕ)
takes =
    bytes "(take 2)\n"
    ∷ bytes "(take 2 5)\n"
    ∷ bytes "(take 2 1)\n"
    ∷ bytes "(take 2 0)\n"
    ∷ bytes "(take 2 1001)\n"
    ∷ bytes "(take 2 99999)\n"
    ∷ bytes "(take 2 100000)\n"
    ∷ bytes "(take 2 05)\n"
    ∷ bytes "(take 2 )\n"
    ∷ bytes "(take 2 5 6)\n"
    ∷ bytes "(take)\n"
    ∷ []

abbrev pub takes_say : List (Read RingStep)
takes_say =
    read (TakeOne 2) 9
    ∷ read (Take 2 5) 11
    ∷ read (Take 2 1) 11
    ∷ read (Take 2 0) 11
    ∷ read (Take 2 1001) 14
    ∷ read (Take 2 99999) 15
    ∷ None
    ∷ None
    ∷ None
    ∷ None
    ∷ None
    ∷ []

abbrev pub TakesRead : Type 0
TakesRead = map (λ (s : List ℕ). ring_at s 0) takes ≡ takes_say
