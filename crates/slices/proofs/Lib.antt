mod Copy
mod Library
