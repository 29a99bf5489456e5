-- The text of a page that moves: what stands before the frames and behind them, and around each.
use Rattle.std.specs.Prelude.{ℕ, List, ◌++◌, codes, decimal}
use Rattle.tree_picture.specs.Document.{escape}
use Rattle.bw_model.specs.Log.{Update}
use Rattle.filming.specs.Logs.{log_text}
use Rattle.filming.specs.Maps.{change_text, map_text}

-- the beginning of each page: how it looks, what is to be seen, and its buttons
abbrev pub style_text : List ℕ
style_text =
    codes "<!DOCTYPE html>\n<html lang='en'>\n<head>\n<meta charset='utf-8'>\n<meta name='viewport' content='width=device-width'>\n<title>A Bw-tree, step by step</title>\n<style>\n"
    ++ codes "body{font:16px system-ui,sans-serif;margin:1rem auto;max-width:1400px;padding:0 1rem;color:#1b1f24;background:#fff}\n"
    ++ codes "h1{font-size:1.3rem;margin:.3rem 0}h2{font-size:1.1rem;margin:.6rem 0 .2rem}h3{font-size:1rem;margin:.6rem 0 .2rem}p,ul{margin:.3rem 0;max-width:75rem}\n"
    ++ codes "nav{position:sticky;top:0;background:inherit;padding:.4rem 0;display:flex;flex-wrap:wrap;gap:.5rem;align-items:center}button{font:inherit;padding:.2rem .7rem}\n"
    ++ codes "section{scroll-margin-top:99rem}svg{max-width:100%;height:auto}pre,ol{margin:0;columns:10rem}.changed{font-weight:bold}.why{color:#57606a}.told{position:absolute;left:-99rem}\n"
    ++ codes "@media (prefers-color-scheme:dark){body{color:#e6edf3;background:#0d1117}.why{color:#9198a1}}\n"

abbrev pub guide_text : List ℕ
guide_text =
    codes "</style>\n</head>\n<body>\n<h1>A Bw-tree, step by step</h1>\n"
    ++ codes "<p>Several actors use one ordered map, and none ever locks a page. A record that is linked never changes, so who reads one may sleep there,\n"
    ++ codes "and the others go on. To change a page, an actor writes a new record where nobody else looks, and links it by one compare-and-swap of the\n"
    ++ codes "page's slot: of two who try at once one wins, and the other begins anew. A row is used anew once nobody can still reach its old record.\n"
    ++ codes "Each frame is one atomic step of one actor: why it needs no lock, the tree as it is after it, and the map.</p>\n"
    ++ codes "<details><summary>How to read a frame</summary>\n<ul>\n"
    ++ codes "<li>A page, PID 1 and so on, is a chain of records, the newest on top, a base with its items at the end. Each record lies in a row of\n"
    ++ codes "memory.</li>\n"
    ++ codes "<li>The mapping table at the left has a slot for each page: the row of its newest record. Slot 0 has the root's PID.</li>\n"
    ++ codes "<li>A record that is linked never changes. To change a page, an actor places a new record, whose next one is the newest that it has\n"
    ++ codes "read, in a row of its own. A base has no next one.</li>\n"
    ++ codes "<li>Then it exchanges the slot: one compare-and-swap from the row that it has read to the new one. If another actor was faster, the slot\n"
    ++ codes "has another row by then. The exchange is lost, nothing has changed, and the actor begins anew at the root. So it does after most that it wins\n"
    ++ codes "before its own update is linked. This one word takes the place of a lock.</li>\n"
    ++ codes "<li>The newest record that names a key decides it. What newer records took away is grey and struck through.</li>\n"
    ++ codes "<li>Thick edges: red is what this step changed, black what it read, violet a row that an actor reads next. Under a page stands each\n"
    ++ codes "actor whose operation read its slot last.</li>\n"
    ++ codes "<li>Below the pages lies what is beside the tree: a record that is placed and not linked yet; records that were taken out of the tree\n"
    ++ codes "while an actor reads there, unchanged and in their rows as long as it does; and a page on no level, since it was merged or nothing leads\n"
    ++ codes "to it yet.</li>\n"
    ++ codes "<li>Consolidation: one base replaces a long chain. Split: the upper items of a full page go to a new page, to which a side link leads. A\n"
    ++ codes "term, which is a key and a child, is then posted in the page above.</li>\n"
    ++ codes "<li>Removal of a small page: its term is held, so that its left page stays; the page is removed; that left page takes its items by a merge; the\n"
    ++ codes "term is taken out; and the slot is cleared.</li>\n"
    ++ codes "<li>Spares are rows and PIDs that an actor took and has not linked. Errands are the keys of terms that it has still to post in pages\n"
    ++ codes "above.</li>\n"
    ++ codes "<li>Epochs: an actor announces the epoch in which it enters, and leaves at its end. What it took out of the tree waits in its limbo, the\n"
    ++ codes "cells beside it: with no epoch at first; then with the epoch that it read afterwards (they are stamped), as 'row 9, epoch 1'. Once each other actor was seen outside\n"
    ++ codes "or in a later epoch since then, the cell goes, and its actor frees the row next. So no row is used anew while somebody inside can still reach its\n"
    ++ codes "old record, no exchange takes one for the other, and no operation waits for a reader.</li>\n"
    ++ codes "<li>The log has all updates in their order. Each took effect at its exchange; an operation that changes nothing at one of its own steps,\n"
    ++ codes "which is known when its reply comes.</li>\n"
    ++ codes "<li>Commands: page and back read pairs from a key on, upward and downward; tidy makes what is due on the way to a key.</li>\n"
    ++ codes "<li>Keys: left and right, home and end; space plays; n goes to the next exchange, p to the one before. #12 behind the address is frame\n"
    ++ codes "12.</li>\n"
    ++ codes "</ul>\n</details>\n"

abbrev pub buttons_text : List ℕ
buttons_text =
    codes "<nav aria-label='Frames'><button id='first'>Home</button><button id='back'>Back</button><button id='play'>Play</button><button id='forward'>Forward</button>"
    ++ codes "<button id='last'>End</button><button id='before'>Exchange before</button><button id='next'>Next exchange</button>"
    ++ codes "<span id='at'></span><span id='told' class='told' aria-live='polite'></span></nav>\n<main>\n"

abbrev pub head_text : List ℕ
head_text = style_text ++ guide_text ++ buttons_text

-- the end of each page: the script that moves from frame to frame, by the part of the address behind '#'
abbrev pub tail_text : List ℕ
tail_text =
    codes "</main>\n<script>\n"
    ++ codes "const frames=[...document.querySelectorAll('section')],play=document.getElementById('play'),last=frames.length-1;let timer=0;\n"
    ++ codes "const at=()=>Math.max(frames.findIndex(frame=>'#'+frame.id===location.hash),0),step=n=>frames[n].querySelector('h2').textContent;\n"
    ++ codes "function show(){const here=at();frames.forEach((frame,i)=>frame.hidden=i!==here);document.getElementById('at').textContent=last<0?'no frames':here+1+' of '+frames.length;\n"
    ++ codes "document.getElementById('told').textContent=last<0?'':step(here);if(here>=last)stop()}\n"
    ++ codes "function go(n){if(last>=0)location.hash=frames[Math.min(Math.max(n,0),last)].id}\n"
    ++ codes "function jump(by){let n=at()+by;while(n>0&&n<last&&!step(n).includes(': exchange slot '))n+=by;go(n)}\n"
    ++ codes "function stop(){clearInterval(timer);timer=0;play.textContent='Play'}\n"
    ++ codes "function start(){if(at()>=last)return;play.textContent='Stop';timer=setInterval(()=>go(at()+1),1000)}\n"
    ++ codes "const press={first:()=>go(0),back:()=>go(at()-1),play:()=>timer?stop():start(),forward:()=>go(at()+1),last:()=>go(last),before:()=>jump(-1),next:()=>jump(1)};\n"
    ++ codes "for(const name in press)document.getElementById(name).onclick=press[name];\n"
    ++ codes "const keys={Home:'first',ArrowLeft:'back',' ':'play',ArrowRight:'forward',End:'last',p:'before',n:'next'};\n"
    ++ codes "onkeydown=event=>{if(keys[event.key]&&!event.ctrlKey&&!event.altKey&&!event.metaKey){event.preventDefault();press[keys[event.key]]()}};\n"
    ++ codes "onhashchange=show;show();\n"
    ++ codes "</script>\n</body>\n</html>\n"

-- why the step needs no lock
abbrev pub reason_line : List ℕ → List ℕ
reason_line reason = codes "<p class='why'>No lock: " ++ reason ++ codes "</p>\n"

-- a frame: its number, the words for its step and for what that found, how the map before it became the map after it, why the step needs no lock, the place of
-- an operation that is done, the picture, and the map and the log after it
abbrev pub frame_text : ℕ → List ℕ → List ℕ → List ℕ → List (List ℕ × List ℕ) → List ℕ → List ℕ → List (List ℕ × List ℕ) → List Update → List ℕ
frame_text number words found reason before place picture after log =
    codes "<section id=\"" ++ decimal number ++ codes "\">\n<h2>" ++ decimal number ++ codes ": " ++ escape words ++ escape found ++ codes "</h2>\n"
    ++ change_text before after ++ reason_line reason ++ place ++ picture ++ map_text after ++ log_text log ++ codes "</section>\n"

-- the last frame of a film that ends at a refusal
abbrev pub refusal_text : List ℕ → List ℕ
refusal_text words = codes "<section id=\"refused\">\n<h2>" ++ words ++ codes "</h2>\n</section>\n"
